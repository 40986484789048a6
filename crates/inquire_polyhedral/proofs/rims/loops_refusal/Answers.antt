-- `inquire_polyhedral::rims::loops_refusal` meets its contract: a turn of the loop is one loop more. Assumes nothing.
use Rattle.std.proofs.Common.{sym, ◌∙◌, arith}
use Rattle.meaning_list_laws.specs.Tests.{first_of-none}
use Rattle.walk_marks.specs.Laws.{first-turn}
use Rattle.inquire_polyhedral.proofs.rims.loops_refusal.Goals as goal

pub loop-rim-init : goal.loop-rim-init
loop-rim-init c = sym (first_of-none _)

pub loop-rim-preserved : goal.loop-rim-preserved
loop-rim-preserved c = c.then-n.ensures ∙ first-turn _ c.args.loops.now c.loop-rim.rim-index _ _ (omega arith) c.loop-rim.invariant c.loop_refusal.ensures
