-- `stl_corners::same_point` meets its contract. Assumes nothing.
use mathlib.Core.Path.{refl}
use Rattle.stl_body.specs.Read.{same_point}
use Rattle.stl_corners.proofs.same_point.Goals as goal

pub returns : goal.returns
unfolding same_point
returns c = refl
