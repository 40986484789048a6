-- `mend_tests::count_listed` meets its contract. Assumes nothing.
use Rattle.std.proofs.Common.{◌≡◌}
use Rattle.meaning.specs.Lists.{run, joined}
use Rattle.memory_layout.specs.Layout.{word}
use Rattle.memory_layout.specs.Entries.{list_of}
use Rattle.mend_tests.specs.Status.{followed, tallied}
use Rattle.mend_tests.proofs.count_listed.Given as goal

abbrev pub invariant-loop-p : goal.invariant-loop-p
invariant-loop-p l = l.counts ≡ tallied l.initial.counts (joined (list_of l.room l.words (word followed l.k)) (run 0 l.p))
