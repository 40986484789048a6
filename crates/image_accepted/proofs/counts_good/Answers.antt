-- `image_accepted::counts_good` meets its contract. Assumes nothing.
use Rattle.std.specs.Prelude.{◌≡◌, leb}
use Rattle.std.proofs.Common.{arith, ap, ◌∙◌}
use Rattle.meaning.specs.Lists.{all_below}
use Rattle.meaning_list_laws.specs.Tests.{all_below-none, all_below-turn}
use Rattle.memory_layout.specs.Layout.{word, largest_tables}
use Rattle.image_accepted.specs.Whole.{counts_good}
use Rattle.image_accepted.proofs.counts_good.Goals as goal

pub loop-k-init : goal.loop-k-init
loop-k-init c = rw all_below-none

pub loop-k-preserved : goal.loop-k-preserved
loop-k-preserved c = all_below-turn _ _ _ _ c.loop-k.invariant (ap (λ n. leb n (word largest_tables c.loop-k.k)) c.count_in.ensures)

pub returns : goal.returns
unfolding counts_good
returns c =
    let done : c.loop-k.k ≡ 10 = omega arith in
    c.loop-k.invariant ∙ ap (all_below _) done
