-- What a call that names its office is refused with, and which body it is answered of (W-206). Definitions only.
use Rattle.std.specs.Prelude.{ℕ, List, Float}
use Rattle.geom_lines_planes.specs.Refuse.{◌unless◌, ◌then◌}
use Rattle.meaning.specs.Offices.{office_refusal, body_for}
use Rattle.memory_layout.specs.Decode.{decode}
use Rattle.memory_layout.specs.Readable.{readable}

module _ (room w : List ℕ) (x : List Float) (o : ℕ) where
  -- "Refusals: 1 for an office above 1, right after 9 and before the 8 for short marks": n is what the call of before is refused with, which tests 9 first
  unfoldable pub by_office : ℕ → ℕ
  by_office n = 9 unless readable room w x then office_refusal o then n

  -- "a body of the other office is answered as if it did not exist"
  abbrev pub body_asked : ℕ → ℕ
  body_asked b = body_for (decode room w x) o b
