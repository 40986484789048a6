-- `memory_readable::room_ok` meets its contract: a turn of the loop is one more test. Assumes nothing.
use Rattle.std.specs.Prelude.{◌≡◌}
use Rattle.std.proofs.Common.{refl, ap, ◌∙◌, arith}
use Rattle.meaning.specs.Lists.{all_below}
use Rattle.meaning_list_laws.specs.Tests.{all_below-none, all_below-turn}
use Rattle.memory_layout.specs.Readable.{room_ok}
use Rattle.memory_readable.proofs.room_ok.Goals as goal

pub loop-k-init : goal.loop-k-init
loop-k-init c = rw all_below-none

pub loop-k-preserved : goal.loop-k-preserved
loop-k-preserved c = all_below-turn _ _ _ _ c.loop-k.invariant refl

pub returns : goal.returns
unfolding room_ok
returns c =
    let done : c.loop-k.k ≡ 10 = omega arith in
    c.loop-k.invariant ∙ ap (all_below _) done
