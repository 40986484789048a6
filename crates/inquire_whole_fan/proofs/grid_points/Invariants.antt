-- `inquire_whole_fan::grid_points` meets its contract: a turn of the loop is one fin more. Assumes nothing.
use Rattle.std.specs.Prelude.{◌≡◌, map}
use Rattle.std.proofs.Common.{take}
use Rattle.meaning_sheets.specs.Sheets.{grid_points}
use Rattle.memory_layout.specs.Decode.{decode}
use Rattle.inquire_fin_starts.specs.Starts.{start_point}
use Rattle.inquire_whole_fan.proofs.grid_points.Given as goal

abbrev pub invariant-loop-fin : goal.invariant-loop-fin
invariant-loop-fin l = l.on ≡ grid_points (map (start_point (decode l.room l.words l.reals)) (take l.fin-index l.fins))
