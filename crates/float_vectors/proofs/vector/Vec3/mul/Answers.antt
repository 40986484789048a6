-- `float_vectors::vector::Vec3::mul` meets its contract: it computes `scaled_v`. Assumes nothing.
use mathlib.Core.Path.{refl}
use Rattle.float_vectors.specs.Space.{scaled_v}
use Rattle.float_vectors.proofs.vector.Vec3.mul.Goals as goal

pub returns : goal.returns
unfolding scaled_v
returns c = refl
