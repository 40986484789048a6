-- `split_stop_place::fins::fins_stop` meets its contract. Assumes nothing.
use Rattle.std.specs.Prelude.{◌≡◌, [], Float}
use Rattle.std.proofs.Common.{take}
use Rattle.meaning_stops.specs.Splits.{row11-fins}
use Rattle.memory_layout.specs.Decode.{decode}
use Rattle.split_fin_tests.specs.FinTests.{cut_at}
use Rattle.split_stop_parts.specs.Told.{row_told}
use Rattle.split_stop_place.proofs.fins.fins_stop.Given as goal

abbrev pub invariant-loop-k : goal.invariant-loop-k
invariant-loop-k l = (t : Float) → l.cut ≡ cut_at (decode l.room l.words l.reals) l.edge t → l.stop ≡ row_told 11 (row11-fins (decode l.room l.words l.reals) l.edge t [] (take l.k l.fins))
