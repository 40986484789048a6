-- `stl_rows::upper::lay_regions` meets its contract: a turn of the loop is one record more. Assumes nothing.
use Rattle.stl_rows.specs.Rows.{region_row}
use Rattle.stl_rows.specs.Facts.{Grown}
use Rattle.stl_rows.proofs.upper.lay_regions.Given as goal

abbrev pub invariant-loop-k : goal.invariant-loop-k
invariant-loop-k l = Grown l.room 1 (region_row l.body l.shell) l.initial.words l.words l.k
