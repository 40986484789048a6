-- `float_vectors::vector::Vec3::add` meets its contract: it computes `sum_v`. Assumes nothing.
use mathlib.Core.Path.{refl}
use Rattle.float_vectors.specs.Space.{sum_v}
use Rattle.float_vectors.proofs.vector.Vec3.add.Goals as goal

pub returns : goal.returns
unfolding sum_v
returns c = refl
