-- `stl_rows::upper::lay_loops` meets its contract: a turn of the loop is one record more. Assumes nothing.
use Rattle.stl_rows.specs.Rows.{loop_row}
use Rattle.stl_rows.specs.Facts.{Grown}
use Rattle.stl_rows.proofs.upper.lay_loops.Given as goal

abbrev pub invariant-loop-k : goal.invariant-loop-k
invariant-loop-k l = Grown l.room 4 (loop_row l.face l.fin) l.initial.words l.words l.k
