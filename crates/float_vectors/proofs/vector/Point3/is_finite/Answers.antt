-- `float_vectors::vector::Point3::is_finite` meets its contract: what its calls ensure, put together, is `finite_point`. Assumes nothing.
use mathlib.Core.Path.{ap₂}
use mathlib.Core.Bool.{◌&&◌}
use borrow.Author.Rules.{rules}
use Rattle.float_vectors.specs.Space.{finite_point}
use Rattle.float_vectors.proofs.vector.Point3.is_finite.Goals as goal

pub returns : goal.returns
unfolding finite_point
returns c = ap₂ ◌&&◌ (ap₂ ◌&&◌ c.is_finite.ensures c.is_finite-2.ensures) c.is_finite-3.ensures
