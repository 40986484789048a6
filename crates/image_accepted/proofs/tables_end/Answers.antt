-- `image_accepted::tables_end` meets its contract. Assumes nothing.
use Rattle.std.proofs.Common.{arith, refl}
use Rattle.image_accepted.specs.Ends.{tables_end}
use Rattle.image_accepted.specs.Turns.{tables-turn}
use Rattle.image_accepted.proofs.tables_end.Goals as goal

pub loop-k-init : goal.loop-k-init
unfolding tables_end
loop-k-init c = (refl, omega arith)

pub loop-k-preserved : goal.loop-k-preserved
loop-k-preserved c =
    let l = c.loop-k in (
      tables-turn c.args.bytes.now l.k c.records_end-end.result l.end c.count_in.result l.invariant.0 c.count_in.ensures c.records_end-end.ensures.value,
      c.records_end-end.ensures.upper_bound,
    )
