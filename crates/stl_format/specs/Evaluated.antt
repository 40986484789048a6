-- Binary STL computed: the trial stone, one of its faces from either side, and its refusals. Each edit of must-fail/ makes one of them false. Assumes nothing.
use Rattle.std.specs.Prelude.{ℕ, ◌^◌, ◌≡◌, refl, List, [], ◌∷◌, ◌++◌, map, length, take, drop, replicate, false}
use Rattle.std.proofs.Math.Option.{none, some}
use Rattle.std.specs.Float.{binary64}
use Rattle.std.specs.Float.Ieee.{round, neg}
use Rattle.meaning.specs.Floats.{◌/ᶠ◌, float_of}
use Rattle.meaning.specs.Model.{Model, positive}
use Rattle.meaning.specs.Inquire.{solid_sides}
use Rattle.meaning.specs.Stone.{at, stone}
use Rattle.meaning.specs.Blade.{with_face, shell_is, start_at}
use Rattle.meaning.specs.Computing.{computing}
use Rattle.stl_format.specs.Stl.{triangles_of, body_stl, stl_refusal, write_refusal}
use Rattle.stl_format.specs.Drawing.{drawing}

-- ---- the bytes

-- "The count equals fins minus two, added over the faces taken": six faces of four fins
trial-triangles : length (triangles_of stone (solid_sides stone 0)) ≡ 12
unfolding computing drawing
trial-triangles = refl

-- the 684 bytes of it: the header's end, the count, the first triangle's normal
trial-head : (length (body_stl stone 0) ∷ take 20 (drop 76 (body_stl stone 0))) ≡ 684 ∷ (replicate 4 0 ++ (12 ∷ 0 ∷ 0 ∷ 0 ∷ replicate 12 0))
unfolding computing drawing
trial-head = refl

-- 4, 3 and 2 in binary32
abbrev four : List ℕ
four = 0 ∷ 0 ∷ 0x80 ∷ 0x40 ∷ []

abbrev three : List ℕ
three = 0 ∷ 0 ∷ 0x40 ∷ 0x40 ∷ []

abbrev two : List ℕ
two = 0 ∷ 0 ∷ 0 ∷ 0x40 ∷ []

-- the first triangle of a drawing: its corners, and its attribute
first : Model → List ℕ
first m = take 38 (drop 96 (body_stl m 0))

-- the face at x = 4 mm alone, "outward": (4,0,0), (4,3,0), (4,3,2) is counter-clockwise from outside
from-its-back : first (shell_is 1 (5 ∷ []) [] [] stone) ≡ four ++ replicate 8 0 ++ four ++ three ++ replicate 4 0 ++ four ++ three ++ two ++ replicate 2 0
unfolding computing drawing first
from-its-back = refl

-- "a front side reverses the points": the same face, seen from its other side
from-its-front : first (shell_is 1 (5 ∷ []) [] [] (with_face 5 (record { front = some 1; back = some 0; loops = 5 ∷ []; surface = some 5; sense = positive }) stone)) ≡ four ++ replicate 4 0 ++ two ++ four ++ three ++ two ++ four ++ three ++ replicate 4 0 ++ replicate 2 0
unfolding computing drawing first
from-its-front = refl

-- a face listed twice is drawn twice
listed-twice : map (λ l. length (body_stl (shell_is 1 l [] [] stone) 0)) ((5 ∷ []) ∷ (5 ∷ 5 ∷ []) ∷ []) ≡ 184 ∷ 284 ∷ []
unfolding computing drawing
listed-twice = refl

-- ---- its refusals

-- a corner of the trial stone elsewhere: at minus 0, a half and 2^-149; at 0.1; beyond binary32; at infinity
elsewhere : List ℕ
elsewhere =
    map (λ p. stl_refusal (start_at p stone) 0)
    (at (neg (float_of 0)) (float_of 1 /ᶠ float_of 2) (round binary64 false 1 (2 ^ 149))
    ∷ at (float_of 0) (float_of 0) (float_of 1 /ᶠ float_of 10)
    ∷ at (float_of 0) (float_of (2 ^ 128)) (float_of 0)
    ∷ at (float_of 1 /ᶠ float_of 0) (float_of 0) (float_of 0)
    ∷ [])

-- "5 for a coordinate that is not finite or would lose bits"
losing-bits : elsewhere ≡ 0 ∷ 5 ∷ 5 ∷ 5 ∷ []
unfolding computing drawing elsewhere
losing-bits = refl

-- a corner at 0.1
abbrev wide : Model
wide = start_at (at (float_of 1 /ᶠ float_of 10) (float_of 0) (float_of 0)) stone

-- only the points of the fans are looked at: the face at x = 4 mm alone, which the corner at the origin is not on
only-of-fans : stl_refusal (shell_is 1 (5 ∷ []) [] [] wide) 0 ≡ 0
unfolding computing drawing
only-of-fans = refl

-- "all volume refusals first, then 5 .., then 8": 0.1 with a face that has the shell on neither side; 0.1 and no byte; a byte too few, and enough
in_order : (write_refusal (with_face 5 (record { front = none; back = none; loops = 5 ∷ []; surface = some 5; sense = positive }) wide) 0 0
    ∷ write_refusal wide 0 0
    ∷ map (write_refusal stone 0) (683 ∷ 684 ∷ []))
    ≡ 1 ∷ 5 ∷ 8 ∷ 0 ∷ []
unfolding computing drawing
in_order = refl
