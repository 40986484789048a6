-- `walk_marks::put_all` meets its contract: a turn of the loop is one more entry. Assumes nothing.
use Rattle.std.proofs.Common.{refl, sym, arith}
use Rattle.walk_marks.specs.Laws.{puts_none, puts-turn}
use Rattle.walk_marks.proofs.put_all.Goals as goal

pub loop-k-init : goal.loop-k-init
loop-k-init c = sym (puts_none _ _)

pub loop-k-preserved : goal.loop-k-preserved
loop-k-preserved c = puts-turn c.args.out.now c.args.ids.now c.args.at c.loop-k.k _ _ _ _ (omega arith) refl refl c.loop-k.invariant c.put.ensures
