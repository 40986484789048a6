-- `stl_rows::upper::lay_shells` meets its contract: a turn of the loop is one shell more. Assumes nothing.
use Rattle.stl_rows.specs.Rows.{shell_row}
use Rattle.stl_rows.specs.Facts.{Grown}
use Rattle.stl_rows.proofs.upper.lay_shells.Given as goal

abbrev pub invariant-loop-k : goal.invariant-loop-k
invariant-loop-k l = Grown l.room 2 (shell_row l.region l.face l.n) l.initial.words l.words l.k
