-- Which floats are binary32 values, computed: the ends of the range and the last digit of each. Each edit of must-fail/ makes one of them false, or a proof. Assumes nothing.
use Rattle.std.specs.Prelude.{◌≡◌, refl, true, false, List, [], ◌∷◌, map, Float}
use Rattle.std.specs.Float.{binary64}
use Rattle.std.specs.Float.Ieee.{fits, of_bits, to_bits}
use Rattle.float_narrow.specs.Narrow.{narrow, narrow_bits}

-- both zeros; 1, its next in binary32 and its next in binary64; the largest of binary32, the float above it and 2^128; an infinity, and what is not a number
common : List Float
common = map (of_bits binary64) (0 ∷ 0x8000000000000000 ∷ 0x3ff0000000000000 ∷ 0x3ff0000020000000 ∷ 0x3ff0000000000001 ∷ 0x47efffffe0000000 ∷ 0x47efffffe0000001 ∷ 0x47f0000000000000 ∷ 0x7ff0000000000000 ∷ 0x7ff8000000000000 ∷ [])

common-ones : map narrow common ≡ true ∷ true ∷ true ∷ true ∷ false ∷ true ∷ false ∷ false ∷ false ∷ false ∷ []
unfolding common narrow fits of_bits
common-ones = refl

-- the smallest normal number of binary32, the largest subnormal, half a step off it, the smallest, half of it, and the smallest of binary64
small : List Float
small = map (of_bits binary64) (0x3810000000000000 ∷ 0x380fffffc0000000 ∷ 0x380fffffa0000000 ∷ 0x36a0000000000000 ∷ 0x3690000000000000 ∷ 1 ∷ [])

small-ones : map narrow small ≡ true ∷ true ∷ false ∷ true ∷ false ∷ false ∷ []
unfolding small narrow fits of_bits
small-ones = refl

-- their patterns
patterns : map narrow_bits (map (of_bits binary64) (0x3ff0000000000001 ∷ 0x8000000000000000 ∷ 0x3ff0000020000000 ∷ 0xc7efffffe0000000 ∷ 0x380fffffc0000000 ∷ 0x36a0000000000000 ∷ []))
    ≡ 0 ∷ 0x80000000 ∷ 0x3f800001 ∷ 0xff7fffff ∷ 0x007fffff ∷ 1 ∷ []
unfolding narrow narrow_bits fits of_bits to_bits
patterns = refl
