-- `split_foreign::list_status` meets its contract. Assumes nothing.
use Rattle.std.proofs.Common.{refl, ◌∙◌, arith}
use Rattle.split_foreign.specs.Status.{greatest, standing}
use Rattle.split_foreign.specs.Laws.{greatest-turn}
use Rattle.split_foreign.proofs.list_status.Goals as goal

pub loop-id-init : goal.loop-id-init
unfolding greatest
loop-id-init c = refl

pub loop-id-preserved : goal.loop-id-preserved
loop-id-preserved c = c.greater-s.ensures ∙ greatest-turn (standing c.args.below.now) c.args.ids.now c.loop-id.id-index _ _ (omega arith) c.loop-id.invariant c.status_at.ensures
