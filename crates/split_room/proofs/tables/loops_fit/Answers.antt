-- `split_room::tables::loops_fit` meets its contract. Assumes nothing.
use Rattle.std.proofs.Common.{refl, arith}
use Rattle.meaning.specs.Lists.{all}
use Rattle.walk_marks.specs.Laws.{all-turn}
use Rattle.split_room.proofs.tables.loops_fit.Goals as goal

pub loop-k-init : goal.loop-k-init
unfolding all
loop-k-init c = refl

pub loop-k-preserved : goal.loop-k-preserved
loop-k-preserved c = all-turn _ c.args.fins.now c.loop-k.k _ _ (omega arith) c.loop-k.invariant c.loop_fits-ok.ensures
