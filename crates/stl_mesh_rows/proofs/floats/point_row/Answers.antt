-- `stl_mesh_rows::floats::point_row` meets its contract. Assumes nothing.
use mathlib.Core.Path.{refl}
use lib.Ieee.{of_bits}
use Rattle.stl_mesh_rows.proofs.floats.point_row.Goals as goal

pub returns : goal.returns
unfolding of_bits
returns c = refl
