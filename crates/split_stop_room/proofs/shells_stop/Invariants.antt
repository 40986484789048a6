-- `split_stop_room::shells_stop` meets its contract. Assumes nothing.
use Rattle.std.specs.Prelude.{◌≡◌, map}
use Rattle.meaning.specs.Lists.{run}
use Rattle.split_stop_parts.specs.Told.{row_told}
use Rattle.split_stop_room.specs.RoomRows.{shell_part}
use Rattle.split_stop_room.proofs.shells_stop.Given as goal

abbrev pub invariant-loop-s : goal.invariant-loop-s
invariant-loop-s l = l.stop ≡ row_told l.row (map (shell_part l.room l.words l.edge l.more l.place l.refusal) (run 0 l.s))
