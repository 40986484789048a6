-- The entries below i are told by the numbers, and the others are as they were.
use Rattle.std.proofs.Common.{◌≡◌}
use Rattle.check_fault_list.specs.List.{written}
use Rattle.check_fault_list.proofs.write.Given as goal

abbrev pub invariant-loop-i : goal.invariant-loop-i
invariant-loop-i l = l.list ≡ written l.fn.list l.nums l.i
