-- `stl_corners::apart_at` meets its contract. Assumes nothing.
use native.Mathlib.Omega.{arith}
use mathlib.Core.Path.{ap, ap₂, ◌∙◌}
use mathlib.Core.Bool.{not, ◌||◌}
use Rattle.stl_body.specs.Read.{same_point}
use Rattle.stl_corners.specs.Laws.{apart_parts}
use Rattle.stl_corners.proofs.apart_at.Goals as goal

pub overflow_add-at : goal.overflow_add-at
overflow_add-at c = omega arith

pub overflow_add-at-2 : goal.overflow_add-at-2
overflow_add-at-2 c = omega arith

pub overflow_add-at-3 : goal.overflow_add-at-3
overflow_add-at-3 c = omega arith

pub returns : goal.returns
returns c =
    let a = c.corner_in-a.ensures in
    let b = c.corner_in-b.ensures in
    let d = c.corner_in-c.ensures in
    ap not (ap₂ ◌||◌ (ap₂ ◌||◌ (c.same_point.ensures ∙ ap₂ same_point a b) (c.same_point-2.ensures ∙ ap₂ same_point b d)) (c.same_point-3.ensures ∙ ap₂ same_point d a))
    ∙ apart_parts c.args.at c.args.bytes.now
