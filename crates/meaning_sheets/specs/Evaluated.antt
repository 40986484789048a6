-- The stone sheet computed: the trial stone, damaged stones and sheets at their limits. Each edit of must-fail/ makes one of them false. Assumes nothing.
use Rattle.std.specs.Prelude.{ℕ, ◌+◌, ◌*◌, ◌^◌, ◌≡◌, refl, true, false, List, [], ◌∷◌, map, ℤ, pos, neg_ℤ}
use Rattle.std.proofs.Math.Option.{none, some}
use Rattle.std.specs.Float.Ieee.{neg}
use Rattle.meaning.specs.Floats.{◌/ᶠ◌, float_of}
use Rattle.meaning.specs.Model.{positive}
use Rattle.meaning.specs.Inquire.{solid_sides}
use Rattle.meaning.specs.Stone.{at, stone}
use Rattle.meaning.specs.Blade.{with_face, shell_is, start_at, solid_shells}
use Rattle.meaning.specs.Computing.{computing}
use Rattle.meaning_sheets.specs.Sheets.{six_volume, triangles, stone_refusal, Stone, Sheet, new_sheet, with_stone, sheet_readable, take_refusal, after_takes}
use Rattle.meaning_sheets.specs.Counting.{counting}

-- ---- the stone

-- "The trial stone gives 589,824."
trial-stone : six_volume stone 0 ≡ pos 589824
unfolding computing counting
trial-stone = refl

-- its six faces of four fins are twelve triangles
trial-triangles : triangles stone (solid_sides stone 0) ≡ 12
unfolding computing counting
trial-triangles = refl

-- "over the same faces .. as the float volume": the cone from the origin to the face at x = 4 mm is 8 cubic millimetres; a face listed twice counts twice
listed-twice : map (λ l. six_volume (shell_is 1 l [] [] stone) 0) ((3 ∷ []) ∷ (3 ∷ 3 ∷ []) ∷ []) ≡ pos 196608 ∷ pos 393216 ∷ []
unfolding computing counting
listed-twice = refl

-- "a front side reverses the points": the same face, seen from its other side
from-its-front : six_volume (shell_is 1 (3 ∷ []) [] [] (with_face 3 (record { front = some 1; back = some 0; loops = 3 ∷ []; surface = some 3; sense = positive }) stone)) 0 ≡ neg_ℤ (pos 196608)
unfolding computing counting
from-its-front = refl

-- ---- its refusals

-- a corner of the trial stone elsewhere: at minus 0 and both ends of the range, beyond it, at a half and at a whole sixteenth, at infinity
elsewhere : List ℕ
elsewhere =
    map (λ p. stone_refusal (start_at p stone) 0)
    (at (neg (float_of 0)) (float_of 2048) (neg (float_of 2048))
    ∷ at (float_of 0) (float_of 0) (float_of 2049)
    ∷ at (float_of 0) (float_of 1 /ᶠ float_of 32) (float_of 0)
    ∷ at (float_of 1 /ᶠ float_of 16) (float_of 0) (float_of 0)
    ∷ at (float_of 1 /ᶠ float_of 0) (float_of 0) (float_of 0)
    ∷ [])

-- "5 for a coordinate off the grid or too large"
off-the-grid : elsewhere ≡ 0 ∷ 5 ∷ 5 ∷ 0 ∷ 5 ∷ []
unfolding computing counting elsewhere
off-the-grid = refl

-- only the points of the fans are looked at: the face at x = 4 mm alone, which the corner at the origin is not on
only-of-fans : stone_refusal (shell_is 1 (3 ∷ []) [] [] (start_at (at (float_of 1 /ᶠ float_of 32) (float_of 0) (float_of 0)) stone)) 0 ≡ 0
unfolding computing counting
only-of-fans = refl

-- "all volume refusals, then 5": a solid region without a shell
volume-first : stone_refusal (solid_shells [] (start_at (at (float_of 1 /ᶠ float_of 32) (float_of 0) (float_of 0)) stone)) 0 ≡ 4
unfolding computing counting
volume-first = refl

-- ---- the sheet

abbrev three : ℕ
three = 3 * 2 ^ 60

abbrev sheet_with : ℕ → ℤ → Sheet
sheet_with n z = record { stones = n; total = z; largest = none }

-- "9 for a sheet of over 65,536 stones or with a total above 3·2^60 in size per stone"
limits : map (λ (h : Sheet). sheet_readable h) (new_sheet ∷ sheet_with 0 (pos 1) ∷ sheet_with 65536 (pos (three * 65536)) ∷ sheet_with 65537 (pos 0) ∷ sheet_with 2 (neg_ℤ (pos (2 * three))) ∷ sheet_with 2 (neg_ℤ (pos (2 * three + 1))) ∷ [])
    ≡ true ∷ false ∷ true ∷ false ∷ true ∷ false ∷ []
unfolding counting
limits = refl

-- "then 8 where the sheet already has 65,536 stones", and all that comes in front of it
in_order : map (λ (h : Sheet). take_refusal stone 0 0 h) (sheet_with 65537 (pos 0) ∷ sheet_with 65536 (pos 0) ∷ sheet_with 65535 (pos 0) ∷ []) ≡ 9 ∷ 8 ∷ 0 ∷ []
unfolding computing counting
in_order = refl

-- an office above 1, and the body that is not its own
by-office : map (λ o. take_refusal stone o 0 new_sheet) (0 ∷ 1 ∷ 2 ∷ []) ≡ 0 ∷ 2 ∷ 1 ∷ []
unfolding computing counting
by-office = refl

-- "A refused body leaves the sheet as found", and the others are taken in: twice the same, which the first met of stays the largest
handed-on : after_takes stone (record { office = 0; body = 0 } ∷ record { office = 1; body = 0 } ∷ record { office = 0; body = 0 } ∷ []) new_sheet
    ≡ record { stones = 2; total = pos 1179648; largest = some (record { body = 0; number = pos 589824 }) }
unfolding computing counting
handed-on = refl

-- "among equals the largest is the first met", and "signed"
largest-met : map (λ (s : Stone). (with_stone (record { stones = 1; total = pos 0; largest = some (record { body = 7; number = neg_ℤ (pos 5) }) }) s).largest)
    (record { body = 8; number = neg_ℤ (pos 5) } ∷ record { body = 8; number = neg_ℤ (pos 6) } ∷ record { body = 8; number = neg_ℤ (pos 4) } ∷ [])
    ≡ some (record { body = 7; number = neg_ℤ (pos 5) }) ∷ some (record { body = 7; number = neg_ℤ (pos 5) }) ∷ some (record { body = 8; number = neg_ℤ (pos 4) }) ∷ []
unfolding counting
largest-met = refl
