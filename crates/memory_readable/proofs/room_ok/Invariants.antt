-- `memory_readable::room_ok` meets its contract: a turn of the loop is one more test. Assumes nothing.
use Rattle.std.specs.Prelude.{◌≡◌, leb}
use Rattle.meaning.specs.Lists.{all_below}
use Rattle.memory_layout.specs.Layout.{largest_tables, word}
use Rattle.memory_readable.proofs.room_ok.Given as goal

abbrev pub invariant-loop-k : goal.invariant-loop-k
invariant-loop-k l = l.ok ≡ all_below (λ j. leb (word l.room j) (word largest_tables j)) l.k
