-- `image_accepted::counts_good` meets its contract. Assumes nothing.
use Rattle.std.specs.Prelude.{◌≡◌, leb}
use Rattle.meaning.specs.Lists.{all_below}
use Rattle.memory_layout.specs.Layout.{word, largest_tables}
use Rattle.image_format.specs.Image.{count_in}
use Rattle.image_accepted.proofs.counts_good.Given as goal

abbrev pub invariant-loop-k : goal.invariant-loop-k
invariant-loop-k l = l.ok ≡ all_below (λ j. leb (count_in l.bytes j) (word largest_tables j)) l.k
