-- `course_edits::append_entry` meets its contract. Assumes nothing.
use Prim.Native.Nat.{ℕ}
use mathlib.Core.Path.{◌≡◌, sym, ap, ap₂, ◌∙◌}
use Rattle.meaning.specs.Edits.{appended}
use Rattle.memory_layout.specs.Decode.{list_at}
use Rattle.memory_writes.specs.Kept.{refused-keeps}
use Rattle.edit_lists.specs.Place.{with_list}
use Rattle.course_edits.specs.Answers.{entry_good, room_number, append_number, appended_words}
use Rattle.course_edits.specs.Laws.{is_open, is-good, entry-small, room_open, room-there}
use native.Mathlib.Omega.{arith}
use borrow.Author.Rules.{rules}
use Rattle.course_edits.proofs.append_entry.Goals as goal

pub returns-then-n-ne0 : goal.returns-then-n-ne0
unfolding appended_words
returns-then-n-ne0 c =
    let e = c.room_refusal-n.ensures ∙ ap (λ g. room_number c.args.courses.now g c.args.course) c.entry_good.ensures in
    record { answer = e; table = (rw (← e) (refused-keeps c.room_refusal-n.result _ _ c.if-n-ne0.true)) }

pub course_at-requires : goal.course_at-requires
course_at-requires c = (is_open c.args.courses.now (entry_good c.args.tag c.args.id) c.args.course (room_open c.args.courses.now (entry_good c.args.tag c.args.id) c.args.course (sym (c.room_refusal-n.ensures ∙ ap (λ g. room_number c.args.courses.now g c.args.course) c.entry_good.ensures) ∙ c.if-n-ne0.false))).small

pub entry_word-requires : goal.entry_word-requires
entry_word-requires c = entry-small c.args.tag c.args.id (is-good c.args.courses.now (entry_good c.args.tag c.args.id) c.args.course (room_open c.args.courses.now (entry_good c.args.tag c.args.id) c.args.course (sym (c.room_refusal-n.ensures ∙ ap (λ g. room_number c.args.courses.now g c.args.course) c.entry_good.ensures) ∙ c.if-n-ne0.false)))

pub append_at-requires : goal.append_at-requires
append_at-requires c =
    let o = is_open c.args.courses.now (entry_good c.args.tag c.args.id) c.args.course (room_open c.args.courses.now (entry_good c.args.tag c.args.id) c.args.course (sym (c.room_refusal-n.ensures ∙ ap (λ g. room_number c.args.courses.now g c.args.course) c.entry_good.ensures) ∙ c.if-n-ne0.false)) in
    let room = room-there c.args.courses.now (entry_good c.args.tag c.args.id) c.args.course (sym (c.room_refusal-n.ensures ∙ ap (λ g. room_number c.args.courses.now g c.args.course) c.entry_good.ensures) ∙ c.if-n-ne0.false) in
    let whole = o.lies.whole in
    rw c.course_at.ensures (o.held, omega arith, omega arith)

pub returns : goal.returns
unfolding appended_words
returns c =
    let z : append_number c.args.courses.now c.args.course c.args.tag c.args.id ≡ 0 = (sym (c.room_refusal-n.ensures ∙ ap (λ g. room_number c.args.courses.now g c.args.course) c.entry_good.ensures) ∙ c.if-n-ne0.false) in
    record { answer = sym z; table = (rw z (c.append_at.ensures ∙ ap₂ (λ (i v : ℕ). with_list i (appended (list_at c.args.courses.now i) v) c.args.courses.now) c.course_at.ensures c.entry_word.ensures)) }
