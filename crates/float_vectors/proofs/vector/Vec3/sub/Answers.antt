-- `float_vectors::vector::Vec3::sub` meets its contract: it computes `minus_v`. Assumes nothing.
use mathlib.Core.Path.{refl}
use Rattle.float_vectors.specs.Space.{minus_v}
use Rattle.float_vectors.proofs.vector.Vec3.sub.Goals as goal

pub returns : goal.returns
unfolding minus_v
returns c = refl
