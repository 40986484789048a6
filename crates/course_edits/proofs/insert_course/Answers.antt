-- `course_edits::insert_course` meets its contract. Assumes nothing.
use Prim.Native.Nat.{◌+◌}
use mathlib.Core.Path.{◌≡◌, refl, sym, ap, ◌∙◌}
use lib.ListN.{set, length-set}
use Rattle.memory_layout.specs.Layout.{word}
use Rattle.memory_writes.specs.Kept.{refused-keeps}
use Rattle.course_edits.specs.Answers.{insert_number, inserted_words}
use Rattle.course_edits.specs.Laws.{insert-room}
use native.Mathlib.Omega.{arith}
use borrow.Author.Rules.{rules}
use Rattle.course_edits.proofs.insert_course.Goals as goal

pub returns-then-n-ne0 : goal.returns-then-n-ne0
unfolding inserted_words
returns-then-n-ne0 c =
    let e = c.insert_refusal-n.ensures in
    record { answer = e; table = rw (← e) (refused-keeps c.insert_refusal-n.result _ _ c.if-n-ne0.true); slots = refused-keeps c.insert_refusal-n.result _ _ c.if-n-ne0.true }

pub bounds-courses-0 : goal.bounds-courses-0
bounds-courses-0 c = let h = (insert-room c.args.courses.now (sym c.insert_refusal-n.ensures ∙ c.if-n-ne0.false)).1 in omega arith

pub course_at-at-requires : goal.course_at-at-requires
course_at-at-requires c = let h = (insert-room c.args.courses.now (sym c.insert_refusal-n.ensures ∙ c.if-n-ne0.false)).0 in omega arith

pub offset_bounds-courses-at : goal.offset_bounds-courses-at
offset_bounds-courses-at c = let h = (insert-room c.args.courses.now (sym c.insert_refusal-n.ensures ∙ c.if-n-ne0.false)).0 in let e = c.course_at-at.ensures in record { fits = omega arith }

pub bounds-courses-at : goal.bounds-courses-at
bounds-courses-at c = let h = (insert-room c.args.courses.now (sym c.insert_refusal-n.ensures ∙ c.if-n-ne0.false)).1 in let e = c.course_at-at.ensures in omega arith

pub overflow_add-courses : goal.overflow_add-courses
overflow_add-courses c = let h = (insert-room c.args.courses.now (sym c.insert_refusal-n.ensures ∙ c.if-n-ne0.false)).0 in omega arith

pub bounds-courses-0-2 : goal.bounds-courses-0-2
bounds-courses-0-2 c = let h = (insert-room c.args.courses.now (sym c.insert_refusal-n.ensures ∙ c.if-n-ne0.false)).1 in omega (arith, length-set c.args.courses.now c.course_at-at.result 0)

pub shape_of-courses : goal.shape_of-courses
shape_of-courses c = length-set (set c.args.courses.now c.course_at-at.result 0) 0 (word c.args.courses.now 0 + 1) ∙ length-set c.args.courses.now c.course_at-at.result 0

pub returns : goal.returns
unfolding inserted_words
returns c =
    let s = c in
    let w = s.args.courses.now in
    let z : insert_number w ≡ 0 = sym c.insert_refusal-n.ensures ∙ c.if-n-ne0.false in
    record { answer = sym z; table = (rw z (ap (λ i. set (set w i 0) 0 (word w 0 + 1)) c.course_at-at.ensures)); slots = refl }
