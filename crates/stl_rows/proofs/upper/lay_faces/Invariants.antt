-- `stl_rows::upper::lay_faces` meets its contract: a turn of the loop is one record more. Assumes nothing.
use Rattle.stl_rows.specs.Rows.{face_row}
use Rattle.stl_rows.specs.Facts.{Grown}
use Rattle.stl_rows.proofs.upper.lay_faces.Given as goal

abbrev pub invariant-loop-k : goal.invariant-loop-k
invariant-loop-k l = Grown l.room 3 (face_row l.shell l.first) l.initial.words l.words l.k
