-- `memory_readable::counts_ok` meets its contract: a turn of the loop is one more test. Assumes nothing.
use Rattle.std.specs.Prelude.{◌≡◌, leb}
use Rattle.meaning.specs.Lists.{all_below}
use Rattle.memory_layout.specs.Layout.{word}
use Rattle.memory_readable.proofs.counts_ok.Given as goal

abbrev pub invariant-loop-k : goal.invariant-loop-k
invariant-loop-k l = l.ok ≡ all_below (λ j. leb (word l.words j) (word l.room j)) l.k
