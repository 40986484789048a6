-- `walk_sources::all_followed` meets its contract: a turn of the loop is one more record. Assumes nothing.
use Rattle.std.proofs.Common.{arith}
use Rattle.meaning_list_laws.specs.Lists.{all_none}
use Rattle.walk_marks.specs.Laws.{all-turn}
use Rattle.walk_sources.proofs.all_followed.Goals as goal

pub loop-id-init : goal.loop-id-init
loop-id-init c = rw all_none

pub loop-id-preserved : goal.loop-id-preserved
loop-id-preserved c = all-turn _ c.args.ids.now c.loop-id.id-index _ _ (omega arith) c.loop-id.invariant c.record_followed-ok.ensures
