-- `stl_corners::finite_at` meets its contract. Assumes nothing.
use native.Mathlib.Omega.{arith}
use mathlib.Core.Path.{ap, ap₂, ◌∙◌}
use mathlib.Core.Bool.{◌&&◌}
use Rattle.float_vectors.specs.Space.{finite_point}
use Rattle.stl_corners.specs.Laws.{finite-parts}
use Rattle.stl_corners.proofs.finite_at.Goals as goal

pub overflow_add-at : goal.overflow_add-at
overflow_add-at c = omega arith

pub overflow_add-at-2 : goal.overflow_add-at-2
overflow_add-at-2 c = omega arith

pub overflow_add-at-3 : goal.overflow_add-at-3
overflow_add-at-3 c = omega arith

pub returns : goal.returns
returns c =
    ap₂ ◌&&◌ (ap₂ ◌&&◌ (c.is_finite.ensures ∙ ap finite_point c.corner_in-a.ensures) (c.is_finite-2.ensures ∙ ap finite_point c.corner_in-b.ensures)) (c.is_finite-3.ensures ∙ ap finite_point c.corner_in-c.ensures)
    ∙ finite-parts c.args.at c.args.bytes.now
