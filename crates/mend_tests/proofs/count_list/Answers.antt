-- `mend_tests::count_list` meets its contract. Assumes nothing.
use Rattle.std.proofs.Common.{arith, sym, ◌∙◌}
use Rattle.mend_tests.specs.Laws.{tallied-none, tallied-turn}
use Rattle.mend_tests.proofs.count_list.Goals as goal

pub loop-id-init : goal.loop-id-init
loop-id-init c = sym (tallied-none _)

pub overflow_cast-id : goal.overflow_cast-id
overflow_cast-id c = omega (arith, c.type_inv.ids c.loop-id.id-index)

pub loop-id-preserved : goal.loop-id-preserved
loop-id-preserved c = c.count_one.ensures ∙ tallied-turn c.args.counts.now c.args.ids.now c.loop-id.id-index _ (omega arith) c.loop-id.invariant
