-- `float_vectors::vector::Point3::add` meets its contract: it computes `along`. Assumes nothing.
use mathlib.Core.Path.{refl}
use Rattle.float_vectors.specs.Space.{along}
use Rattle.float_vectors.proofs.vector.Point3.add.Goals as goal

pub returns : goal.returns
unfolding along
returns c = refl
