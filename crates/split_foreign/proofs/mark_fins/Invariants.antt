-- `split_foreign::mark_fins` meets its contract. Assumes nothing.
use Rattle.split_foreign.specs.Status.{fin_status}
use Rattle.split_foreign.specs.Facts.{Rows}
use Rattle.split_foreign.proofs.mark_fins.Given as goal

abbrev pub invariant-loop-i : goal.invariant-loop-i
invariant-loop-i l = Rows l.i (fin_status l.room l.words l.edge) l.own
