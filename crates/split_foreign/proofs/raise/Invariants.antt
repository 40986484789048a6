-- `split_foreign::raise` meets its contract. Assumes nothing.
use Rattle.split_foreign.specs.Status.{standing, record_status}
use Rattle.split_foreign.specs.Facts.{Rows}
use Rattle.split_foreign.proofs.raise.Given as goal

abbrev pub invariant-loop-i : goal.invariant-loop-i
invariant-loop-i l = Rows l.i (record_status l.room l.words l.edge l.j (standing l.below)) l.own
