-- `stl_corners::corner_in` meets its contract. Assumes nothing.
use native.Mathlib.Omega.{arith}
use mathlib.Core.Path.{◌∙◌}
use Rattle.stl_corners.specs.Laws.{corner-parts}
use Rattle.stl_corners.proofs.corner_in.Goals as goal

pub overflow_add-at : goal.overflow_add-at
overflow_add-at c = omega arith

pub overflow_add-at-2 : goal.overflow_add-at-2
overflow_add-at-2 c = omega arith

pub returns : goal.returns
returns c =
    (λ i. record { x = c.coordinate_in.ensures i; y = c.coordinate_in-2.ensures i; z = c.coordinate_in-3.ensures i })
    ∙ corner-parts c.args.at c.args.bytes.now
