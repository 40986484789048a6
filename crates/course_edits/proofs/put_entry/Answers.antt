-- `course_edits::put_entry` meets its contract. Assumes nothing.
use Prim.Native.Nat.{ℕ}
use mathlib.Core.Path.{◌≡◌, sym, ap, ap₂, ◌∙◌}
use lib.ListN.{set}
use Rattle.memory_layout.specs.Decode.{list_at}
use Rattle.memory_writes.specs.Kept.{refused-keeps}
use Rattle.edit_lists.specs.Place.{with_list}
use Rattle.course_edits.specs.Answers.{entry_good, place_number, put_number, put_words}
use Rattle.course_edits.specs.Laws.{is_open, is-good, entry-small, place-open, place-there}
use borrow.Author.Rules.{rules}
use Rattle.course_edits.proofs.put_entry.Goals as goal

pub returns-then-n-ne0 : goal.returns-then-n-ne0
unfolding put_words
returns-then-n-ne0 c =
    let e = c.place_refusal-n.ensures ∙ ap (λ g. place_number c.args.courses.now g c.args.course c.args.place) c.entry_good.ensures in
    record { answer = e; table = (rw (← e) (refused-keeps c.place_refusal-n.result _ _ c.if-n-ne0.true)) }

pub course_at-requires : goal.course_at-requires
course_at-requires c = (is_open c.args.courses.now (entry_good c.args.tag c.args.id) c.args.course (place-open c.args.courses.now (entry_good c.args.tag c.args.id) c.args.course c.args.place (sym (c.place_refusal-n.ensures ∙ ap (λ g. place_number c.args.courses.now g c.args.course c.args.place) c.entry_good.ensures) ∙ c.if-n-ne0.false))).small

pub entry_word-requires : goal.entry_word-requires
entry_word-requires c = entry-small c.args.tag c.args.id (is-good c.args.courses.now (entry_good c.args.tag c.args.id) c.args.course (place-open c.args.courses.now (entry_good c.args.tag c.args.id) c.args.course c.args.place (sym (c.place_refusal-n.ensures ∙ ap (λ g. place_number c.args.courses.now g c.args.course c.args.place) c.entry_good.ensures) ∙ c.if-n-ne0.false)))

pub put_at-requires : goal.put_at-requires
put_at-requires c =
    let o = is_open c.args.courses.now (entry_good c.args.tag c.args.id) c.args.course (place-open c.args.courses.now (entry_good c.args.tag c.args.id) c.args.course c.args.place (sym (c.place_refusal-n.ensures ∙ ap (λ g. place_number c.args.courses.now g c.args.course c.args.place) c.entry_good.ensures) ∙ c.if-n-ne0.false)) in
    rw c.course_at.ensures (o.held, place-there c.args.courses.now (entry_good c.args.tag c.args.id) c.args.course c.args.place (sym (c.place_refusal-n.ensures ∙ ap (λ g. place_number c.args.courses.now g c.args.course c.args.place) c.entry_good.ensures) ∙ c.if-n-ne0.false))

pub returns : goal.returns
unfolding put_words
returns c =
    let z : put_number c.args.courses.now c.args.course c.args.place c.args.tag c.args.id ≡ 0 = (sym (c.place_refusal-n.ensures ∙ ap (λ g. place_number c.args.courses.now g c.args.course c.args.place) c.entry_good.ensures) ∙ c.if-n-ne0.false) in
    record { answer = sym z; table = (rw z (c.put_at.ensures ∙ ap₂ (λ (i v : ℕ). with_list i (set (list_at c.args.courses.now i) c.args.place v) c.args.courses.now) c.course_at.ensures c.entry_word.ensures)) }
