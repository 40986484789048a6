-- Where the records lie in the lent memory: words (u32) and floats, cut up by the capacities of the ten tables. Definitions only.
-- The words begin with the ten used counts and the version, the floats with the precision. Then come the tables, by number: 0 bodies, 1 regions, 2 shells,
-- 3 faces, 4 loops, 5 fins, 6 edges, 7 vertices, 8 curves, 9 surfaces, each with room for as many records as its capacity says.
use Rattle.std.specs.Prelude.{ℕ, zero, suc, ◌+◌, ◌*◌, List, [], ◌∷◌, get_or, take, drop, Float}
use Rattle.std.specs.Float.{nan}

-- how many words a record takes, and how many floats, by table
abbrev pub word_strides : List ℕ
word_strides = 19 ∷ 19 ∷ 836 ∷ 24 ∷ 1026 ∷ 4 ∷ 16 ∷ 1 ∷ 1 ∷ 1 ∷ []

abbrev pub real_strides : List ℕ
real_strides = 0 ∷ 0 ∷ 0 ∷ 0 ∷ 0 ∷ 0 ∷ 1 ∷ 4 ∷ 6 ∷ 6 ∷ []

-- 01, "Largest tables: 64 bodies, 128 regions, 128 shells, 512 faces, 512 loops, 4,096 fins, 2,048 edges, 2,048 vertices, 2,048 curves, 512 surfaces"
abbrev pub largest_tables : List ℕ
largest_tables = 64 ∷ 128 ∷ 128 ∷ 512 ∷ 512 ∷ 4096 ∷ 2048 ∷ 2048 ∷ 2048 ∷ 512 ∷ []

-- an entry of a list of numbers, and of floats
abbrev pub word : List ℕ → ℕ → ℕ
word w k = get_or w k 0

abbrev pub real : List Float → ℕ → Float
real x k = get_or x k nan

-- where table k begins, the first of them at `from`
unfoldable pub base : ℕ → List ℕ → List ℕ → ℕ → ℕ
base from strides room zero = from
base from strides room (suc k) = base from strides room k + word strides k * word room k

-- where record i of table k begins, and so among the words and among the floats
abbrev pub record_at : ℕ → List ℕ → List ℕ → ℕ → ℕ → ℕ
record_at from strides room k i = base from strides room k + word strides k * i

abbrev pub word_at : List ℕ → ℕ → ℕ → ℕ
word_at room k i = record_at 11 word_strides room k i

abbrev pub real_at : List ℕ → ℕ → ℕ → ℕ
real_at room k i = record_at 1 real_strides room k i

-- how many words and floats the tables need
abbrev pub words_needed : List ℕ → ℕ
words_needed room = base 11 word_strides room 10

abbrev pub reals_needed : List ℕ → ℕ
reals_needed room = base 1 real_strides room 10

-- the words and the floats of record i of table k
unfoldable pub words_of : List ℕ → List ℕ → ℕ → ℕ → List ℕ
words_of room w k i = take (word word_strides k) (drop (word_at room k i) w)

unfoldable pub reals_of : List ℕ → List Float → ℕ → ℕ → List Float
reals_of room x k i = take (word real_strides k) (drop (real_at room k i) x)
