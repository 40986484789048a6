-- Numbers, floats and lists as bytes (W-202, "little-endian, floats as their bits, lists with a count"). Definitions only.
use Rattle.std.specs.Prelude.{ℕ, zero, suc, ◌+◌, ◌*◌, ◌/◌, ◌%◌, Bool, true, false, ◌&&◌, List, [], ◌∷◌, ◌++◌, eqb, length, get_or, drop, Float}
use Rattle.std.specs.Float.{binary64}
use Rattle.std.specs.Float.Ieee.{to_bits, of_bits}
use Rattle.meaning.specs.Lists.{joined}

-- ---- written

-- n in k bytes, the lowest first
unfoldable pub little : ℕ → ℕ → List ℕ
little zero n = []
little (suc k) n = (n % 256) ∷ little k (n / 256)

-- numbers of 32 bits, one behind the other
abbrev pub words : List ℕ → List ℕ
words l = joined (little 4) l

-- floats as their 64 bits: all that is not a number has the one pattern that `to_bits` gives it, 0x7ff8_0000_0000_0000
unfoldable pub floats : List Float → List ℕ
floats [] = []
floats (v ∷ l) = little 8 (to_bits binary64 v) ++ floats l

-- lists, each with its count in front
unfoldable pub lists : List (List ℕ) → List ℕ
lists [] = []
lists (l ∷ r) = words (length l ∷ l) ++ lists r

-- ---- read, from the first bytes of s; bytes that are not there count 0

unfoldable pub number : ℕ → List ℕ → ℕ
number zero s = 0
number (suc k) s = get_or s 0 0 + 256 * number k (drop 1 s)

-- n numbers of 32 bits
unfoldable pub words_in : ℕ → List ℕ → List ℕ
words_in zero s = []
words_in (suc n) s = number 4 s ∷ words_in n (drop 4 s)

-- n floats
unfoldable pub floats_in : ℕ → List ℕ → List Float
floats_in zero s = []
floats_in (suc n) s = of_bits binary64 (number 8 s) ∷ floats_in n (drop 8 s)

-- n lists
unfoldable pub lists_in : ℕ → List ℕ → List (List ℕ)
lists_in zero s = []
lists_in (suc n) s = words_in (number 4 s) (drop 4 s) ∷ lists_in n (drop (4 * suc (number 4 s)) s)

-- ---- compared

-- the same bytes
unfoldable pub same_bytes : List ℕ → List ℕ → Bool
same_bytes [] [] = true
same_bytes [] (y ∷ s) = false
same_bytes (x ∷ l) [] = false
same_bytes (x ∷ l) (y ∷ s) = eqb x y && same_bytes l s
