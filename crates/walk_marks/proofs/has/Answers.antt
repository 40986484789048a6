-- `walk_marks::has` meets its contract: a turn of the loop is one more entry. Assumes nothing.
use Rattle.std.proofs.Common.{refl, arith}
use Rattle.meaning_list_laws.specs.Lists.{member-none}
use Rattle.walk_marks.specs.Laws.{member-turn}
use Rattle.walk_marks.proofs.has.Goals as goal

pub loop-id-init : goal.loop-id-init
loop-id-init c = rw member-none

pub loop-id-preserved : goal.loop-id-preserved
loop-id-preserved c = member-turn _ c.args.ids.now c.loop-id.id-index _ _ (omega arith) c.loop-id.invariant refl
