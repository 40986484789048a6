-- What the code tests of a record: its fixed part, then each list. No reader of a public promise needs this file. Definitions only.
use Rattle.std.specs.Prelude.{ℕ, suc, ◌+◌, ◌*◌, Bool, true, ◌&&◌, ◌||◌, cond, List, [], ◌∷◌, eqb, leb, length, get_or, drop}
use Rattle.std.specs.Float.{binary64}
use Rattle.std.specs.Float.Ieee.{to_bits, of_bits}
use Rattle.geom_lines_planes.specs.declared.tolerance.Tolerance.TheVariants.{Own}
use Rattle.meaning.specs.Edits.{tolerance_ok}
use Rattle.memory_layout.specs.Names.{BODIES}
use Rattle.memory_layout.specs.Layout.{word}
use Rattle.image_format.specs.Bytes.{number}
use Rattle.image_format.specs.Fields.{marks, SECOND_BODY_MARK, word_counts, float_counts}

-- how many bytes the mark, the numbers and the floats take
abbrev pub fixed_size : ℕ → ℕ
fixed_size k = 2 + 4 * word word_counts k + 8 * word float_counts k

-- ---- the fixed part p

-- number j of it
abbrev pub number_at : List ℕ → ℕ → ℕ
number_at p j = number 4 (drop (2 + 4 * j) p)

-- the bits of float j, behind a numbers
abbrev pub bits_at : List ℕ → ℕ → ℕ → ℕ
bits_at p a j = number 8 (drop (2 + 4 * a + 8 * j) p)

-- an optional id: its tag and the id
unfoldable pub optional_good : ℕ → ℕ → Bool
optional_good t i = leb t 1 && (eqb t 1 || eqb i 0)

-- three of them, and a tag that is 0 or 1
unfoldable pub marked_good : List ℕ → Bool
marked_good p =
    optional_good (number_at p 0) (number_at p 1) && optional_good (number_at p 2) (number_at p 3) && optional_good (number_at p 4) (number_at p 5) && leb (number_at p 6) 1

-- the bits of a float are those that it is written with
unfoldable pub bits_good : ℕ → Bool
bits_good n = eqb (to_bits binary64 (of_bits binary64 n)) n

-- an optional tolerance: its tag and the bits
unfoldable pub tolerance_good : ℕ → ℕ → Bool
tolerance_good t n = cond (eqb t 0) (eqb n 0) (tolerance_ok (Own (of_bits binary64 n)))

-- the bits of a carrier's float, by its tag
unfoldable pub carrier_bits : ℕ → ℕ → Bool
carrier_bits t n = cond (eqb t 2) (eqb n 0) (bits_good n)

unfoldable pub vertex_good : List ℕ → Bool
vertex_good p =
    leb (number_at p 0) 1 && bits_good (bits_at p 1 0) && bits_good (bits_at p 1 1) && bits_good (bits_at p 1 2) && tolerance_good (number_at p 0) (bits_at p 1 3)

-- three of a carrier's six
abbrev pub three_good : ℕ → List ℕ → ℕ → Bool
three_good t p j = carrier_bits t (bits_at p 1 j) && carrier_bits t (bits_at p 1 (j + 1)) && carrier_bits t (bits_at p 1 (j + 2))

unfoldable pub carrier_good : List ℕ → Bool
carrier_good p = leb (number_at p 0) 2 && (three_good (number_at p 0) p 0 && three_good (number_at p 0) p 3)

-- by table
abbrev pub fixed_tests : List (List ℕ → Bool)
fixed_tests =
    (λ p. leb (number_at p 0) 4)
    ∷ (λ p. leb (number_at p 1) 1)
    ∷ (λ p. true)
    ∷ marked_good
    ∷ (λ p. true)
    ∷ (λ p. leb (number_at p 2) 1 && leb (number_at p 3) 1)
    ∷ (λ p. marked_good p && tolerance_good (number_at p 6) (bits_at p 7 0))
    ∷ vertex_good
    ∷ carrier_good
    ∷ carrier_good
    ∷ []

unfoldable pub fields_good : ℕ → List ℕ → Bool
fields_good k p = get_or fixed_tests k (λ _. true) p

-- the mark of a record of table k: a body has two
unfoldable pub mark_good : ℕ → ℕ → Bool
mark_good k n = (eqb k BODIES && eqb n SECOND_BODY_MARK) || eqb n (word marks k)

unfoldable pub fixed_good : ℕ → List ℕ → Bool
fixed_good k p = mark_good k (number 2 p) && fields_good k p

-- ---- the lists

-- where a list ends that begins at a place of the bytes b: 0 where it is too long, or b too short for it, or the place is 0
unfoldable pub list_end : ℕ → List ℕ → ℕ → ℕ
list_end limit b at =
    let n = number 4 (drop at b) in
    cond (eqb at 0) 0 (cond (leb n limit && leb (4 * suc n) (length (drop at b))) (at + 4 * suc n) 0)

-- and where several end, one behind the other
unfoldable pub lists_end : List ℕ → List ℕ → ℕ → ℕ
lists_end [] b at = at
lists_end (limit ∷ l) b at = lists_end l b (list_end limit b at)
