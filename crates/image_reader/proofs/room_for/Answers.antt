-- `image_reader::room_for` meets its contract: a turn of the loop is one more table. Assumes nothing.
use Rattle.std.specs.Prelude.{◌≡◌, leb}
use Rattle.std.proofs.Common.{arith, ap, ◌∙◌}
use Rattle.meaning.specs.Lists.{all_below}
use Rattle.meaning_list_laws.specs.Tests.{all_below-none, all_below-turn}
use Rattle.memory_layout.specs.Layout.{word}
use Rattle.image_reader.specs.Answers.{room_for}
use Rattle.image_reader.proofs.room_for.Goals as goal

pub loop-k-init : goal.loop-k-init
loop-k-init c = rw all_below-none

pub loop-k-preserved : goal.loop-k-preserved
loop-k-preserved c = all_below-turn _ _ _ _ c.loop-k.invariant (ap (λ n. leb n (word c.args.room.now c.loop-k.k)) c.count_in.ensures)

pub returns : goal.returns
unfolding room_for
returns c =
    let done : c.loop-k.k ≡ 10 = omega arith in
    c.loop-k.invariant ∙ ap (all_below _) done
