-- `split_stop_room::loops_stop` meets its contract. Assumes nothing.
use Rattle.std.specs.Prelude.{◌≡◌, map}
use Rattle.std.proofs.Common.{take}
use Rattle.split_stop_parts.specs.Told.{row_told}
use Rattle.split_stop_room.specs.RoomRows.{loop_part}
use Rattle.split_stop_room.proofs.loops_stop.Given as goal

abbrev pub invariant-loop-k : goal.invariant-loop-k
invariant-loop-k l = l.stop ≡ row_told 13 (map (loop_part l.room l.words l.fins) (take l.k l.fins))
