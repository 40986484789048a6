-- `stl_rows::upper::face_row` meets its contract. Assumes nothing.
use mathlib.Core.Path.{refl}
use Rattle.stl_rows.proofs.upper.face_row.Goals as goal

pub returns : goal.returns
returns c = refl
