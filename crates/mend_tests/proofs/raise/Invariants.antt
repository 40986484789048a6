-- `mend_tests::raise` meets its contract. Assumes nothing.
use Rattle.split_foreign.specs.Status.{standing}
use Rattle.split_foreign.specs.Facts.{Rows}
use Rattle.mend_tests.specs.Status.{again, status}
use Rattle.mend_tests.proofs.raise.Given as goal

abbrev pub invariant-loop-i : goal.invariant-loop-i
invariant-loop-i l = Rows l.i (status l.room l.words l.k (again l.counts) (standing l.below)) l.own
