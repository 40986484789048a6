-- `stl_triangles::narrow_point` meets its contract. Assumes nothing.
use mathlib.Core.Path.{ap₂}
use mathlib.Core.Bool.{◌&&◌}
use borrow.Author.Rules.{rules}
use Rattle.stl_triangles.proofs.narrow_point.Goals as goal

pub returns : goal.returns
returns c = ap₂ ◌&&◌ (ap₂ ◌&&◌ c.narrow.ensures c.narrow-2.ensures) c.narrow-3.ensures
