-- `course_edits::course_length` meets its contract. Assumes nothing.
use mathlib.Core.Bool.{true}
use mathlib.Core.Path.{sym, ap, ◌∙◌}
use mathlib.Core.List.{[], ◌∷◌}
use Rattle.memory_layout.specs.Layout.{word}
use Rattle.memory_writes.specs.Kept.{refused-keeps}
use Rattle.course_edits.specs.Laws.{is_open}
use native.Mathlib.Omega.{arith}
use borrow.Author.Rules.{rules}
use Rattle.course_edits.proofs.course_length.Goals as goal

pub returns-then-n-ne0 : goal.returns-then-n-ne0
returns-then-n-ne0 c = record { answer = c.open_refusal-n.ensures; slots = refused-keeps c.open_refusal-n.result _ _ c.if-n-ne0.true }

pub course_at-requires : goal.course_at-requires
course_at-requires c = (is_open c.args.courses.now true c.args.course (sym c.open_refusal-n.ensures ∙ c.if-n-ne0.false)).small

pub offset_bounds-courses-course_at : goal.offset_bounds-courses-course_at
offset_bounds-courses-course_at c =
    let o = is_open c.args.courses.now true c.args.course (sym c.open_refusal-n.ensures ∙ c.if-n-ne0.false) in
    let e = c.course_at.ensures in
    let s = o.small in
    record { fits = omega arith }

pub bounds-courses-course_at : goal.bounds-courses-course_at
bounds-courses-course_at c =
    let o = is_open c.args.courses.now true c.args.course (sym c.open_refusal-n.ensures ∙ c.if-n-ne0.false) in
    let e = c.course_at.ensures in
    let h = o.lies.whole in
    omega arith

pub returns : goal.returns
returns c = record { answer = sym (sym c.open_refusal-n.ensures ∙ c.if-n-ne0.false); slots = ap (λ i. word c.args.courses.now i ∷ []) c.course_at.ensures }
