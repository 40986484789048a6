-- `stl_rows::upper::region_row` meets its contract. Assumes nothing.
use mathlib.Core.Path.{refl}
use Rattle.stl_rows.proofs.upper.region_row.Goals as goal

pub returns : goal.returns
returns c = refl
