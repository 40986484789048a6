-- `float_vectors::vector::Point3::sub` meets its contract: it computes `minus`. Assumes nothing.
use mathlib.Core.Path.{refl}
use Rattle.float_vectors.specs.Space.{minus}
use Rattle.float_vectors.proofs.vector.Point3.sub.Goals as goal

pub returns : goal.returns
unfolding minus
returns c = refl
