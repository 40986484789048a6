-- `float_vectors::vector::Vec3::dot` meets its contract: it computes `dot_v`. Assumes nothing.
use mathlib.Core.Path.{refl}
use Rattle.float_vectors.specs.Space.{dot_v}
use Rattle.float_vectors.proofs.vector.Vec3.dot.Goals as goal

pub returns : goal.returns
unfolding dot_v
returns c = refl
