-- `float_vectors::vector::Vec3::cross` meets its contract: it computes `cross_v`. Assumes nothing.
use mathlib.Core.Path.{refl}
use Rattle.float_vectors.specs.Space.{cross_v}
use Rattle.float_vectors.proofs.vector.Vec3.cross.Goals as goal

pub returns : goal.returns
unfolding cross_v
returns c = refl
