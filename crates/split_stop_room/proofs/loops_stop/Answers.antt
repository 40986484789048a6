-- `split_stop_room::loops_stop` meets its contract. Assumes nothing.
use Rattle.std.proofs.Common.{◌∙◌, arith}
use Rattle.split_stop_parts.specs.Laws.{nothing-told, mapped-more}
use Rattle.split_stop_room.specs.RoomRows.{loop_part}
use Rattle.split_stop_room.proofs.loops_stop.Goals as goal

pub loop-k-init : goal.loop-k-init
loop-k-init c = c.stop_at-stop.ensures ∙ nothing-told 13

pub loop-k-preserved : goal.loop-k-preserved
loop-k-preserved c = c.first-stop.ensures ∙ mapped-more 13 (loop_part c.args.room.now c.args.words.now c.args.fins.now) c.args.fins.now c.loop-k.k _ _ (omega arith) c.loop-k.invariant c.loop_stop.ensures
