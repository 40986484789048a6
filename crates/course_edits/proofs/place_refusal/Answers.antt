-- `course_edits::place_refusal` meets its contract. Assumes nothing.
use Prim.Native.Nat.{◌≤◌, ◌<◌}
use mathlib.Core.Path.{sym, ◌∙◌, subst}
use Rattle.memory_layout.specs.Layout.{word}
use Rattle.course_edits.specs.Laws.{is_open, place-refused, no_place, a-place}
use native.Mathlib.Omega.{arith}
use borrow.Author.Rules.{rules}
use Rattle.course_edits.proofs.place_refusal.Goals as goal

pub returns-then-n-ne0 : goal.returns-then-n-ne0
returns-then-n-ne0 c = place-refused _ _ _ _ _ c.open_refusal-n.ensures c.if-n-ne0.true

pub course_at-requires : goal.course_at-requires
course_at-requires c = (is_open c.args.courses.now c.args.good c.args.course (sym c.open_refusal-n.ensures ∙ c.if-n-ne0.false)).small

pub offset_bounds-courses-course_at : goal.offset_bounds-courses-course_at
offset_bounds-courses-course_at c =
    let o = is_open c.args.courses.now c.args.good c.args.course (sym c.open_refusal-n.ensures ∙ c.if-n-ne0.false) in
    let e = c.course_at.ensures in
    let s = o.small in
    record { fits = omega arith }

pub bounds-courses-course_at : goal.bounds-courses-course_at
bounds-courses-course_at c =
    let o = is_open c.args.courses.now c.args.good c.args.course (sym c.open_refusal-n.ensures ∙ c.if-n-ne0.false) in
    let e = c.course_at.ensures in
    let h = o.lies.whole in
    omega arith

pub returns-then-courses-course_at : goal.returns-then-courses-course_at
returns-then-courses-course_at c =
    let w = c.args.courses.now in
    no_place _ _ _ _ _ c.open_refusal-n.ensures c.if-n-ne0.false (subst (λ i. word w i ≤ c.args.place) c.course_at.ensures c.if-courses-course_at.true)

pub returns : goal.returns
returns c =
    let w = c.args.courses.now in
    a-place _ _ _ _ _ c.open_refusal-n.ensures c.if-n-ne0.false (subst (λ i. c.args.place < word w i) c.course_at.ensures c.if-courses-course_at.false)
