-- `course_edits::strike_entry` meets its contract. Assumes nothing.
use mathlib.Core.Bool.{true}
use mathlib.Core.Path.{◌≡◌, sym, ap, ◌∙◌}
use Rattle.memory_layout.specs.Decode.{list_at}
use Rattle.memory_writes.specs.Kept.{refused-keeps}
use Rattle.edit_lists.specs.Place.{struck, with_list}
use Rattle.course_edits.specs.Answers.{strike_number, struck_words}
use Rattle.course_edits.specs.Laws.{is_open, place-open, place-there}
use borrow.Author.Rules.{rules}
use Rattle.course_edits.proofs.strike_entry.Goals as goal

pub returns-then-n-ne0 : goal.returns-then-n-ne0
unfolding struck_words
returns-then-n-ne0 c =
    let e = c.place_refusal-n.ensures in
    record { answer = e; table = (rw (← e) (refused-keeps c.place_refusal-n.result _ _ c.if-n-ne0.true)) }

pub course_at-requires : goal.course_at-requires
course_at-requires c = (is_open c.args.courses.now true c.args.course (place-open c.args.courses.now true c.args.course c.args.place (sym c.place_refusal-n.ensures ∙ c.if-n-ne0.false))).small

pub strike_at-requires : goal.strike_at-requires
strike_at-requires c =
    let o = is_open c.args.courses.now true c.args.course (place-open c.args.courses.now true c.args.course c.args.place (sym c.place_refusal-n.ensures ∙ c.if-n-ne0.false)) in
    rw c.course_at.ensures (o.held, place-there c.args.courses.now true c.args.course c.args.place (sym c.place_refusal-n.ensures ∙ c.if-n-ne0.false))

pub returns : goal.returns
unfolding struck_words
returns c =
    let z : strike_number c.args.courses.now c.args.course c.args.place ≡ 0 = (sym c.place_refusal-n.ensures ∙ c.if-n-ne0.false) in
    record { answer = sym z; table = (rw z (c.strike_at.ensures ∙ ap (λ i. with_list i (struck (list_at c.args.courses.now i) c.args.place) c.args.courses.now) c.course_at.ensures)) }
