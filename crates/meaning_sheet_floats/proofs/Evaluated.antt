-- The float volume of the trial stone, by the theorem of specs/Statements.antt on which it rests. Assumes nothing.
use Rattle.std.specs.Prelude.{◌*◌, ◌^◌, pos}
use Rattle.interval_arithmetic.specs.Ops.{zero_f}
use Rattle.meaning.specs.Inquire.{solid_sides, sum_volumes}
use Rattle.meaning.specs.Stone.{stone}
use Rattle.meaning.specs.Computing.{computing}
use Rattle.meaning_sheet_floats.specs.Exactly.{Exactly}
use Rattle.meaning_sheet_floats.specs.Statements.{float-volume-exact}
use Rattle.meaning_sheet_floats.specs.Evaluated.{counting, stone-meets}

-- so its float volume is 589,824 / (6 · 16 ^ 3), which is 24
trial-stone : Exactly (sum_volumes stone zero_f (solid_sides stone 0)) (6 * 16 ^ 3) (pos 589824)
unfolding computing counting
trial-stone = float-volume-exact stone 0 64 stone-meets
