-- `mend_tests::count_list` meets its contract. Assumes nothing.
use Rattle.std.proofs.Common.{◌≡◌, take}
use Rattle.mend_tests.specs.Status.{tallied}
use Rattle.mend_tests.proofs.count_list.Given as goal

abbrev pub invariant-loop-id : goal.invariant-loop-id
invariant-loop-id l = l.counts ≡ tallied l.initial.counts (take l.id-index l.ids)
