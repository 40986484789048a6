-- `mend_writes::apply` meets its contract: a turn of the loop stores one entry. Assumes nothing.
use Rattle.std.proofs.Common.{◌≡◌}
use Rattle.mend_writes.specs.Laws.{entries_made}
use Rattle.mend_writes.proofs.apply.Given as goal

abbrev pub invariant-loop-i : goal.invariant-loop-i
invariant-loop-i l = l.words ≡ entries_made l.room l.initial.words l.list l.i
