-- What the functions behind the test of refusal 9 may rely on, as orders of numbers. No reader of a public promise needs this file. Definitions only.
use Rattle.std.specs.Prelude.{ℕ, ◌+◌, ◌≤◌, ◌<◌, ◌≡◌, true, List, length, Float}
use Rattle.meaning.specs.Edits.{precision_ok}
use Rattle.memory_layout.specs.Names.{VERSION, PRECISION}
use Rattle.memory_layout.specs.Layout.{word_strides, real_strides, largest_tables, word, real, words_needed, reals_needed, words_of, reals_of}
use Rattle.memory_layout.specs.Readable.{version_ok, record_ok}
use Rattle.memory_layout.specs.Entries.{list_tables, list_places, list_limits}

-- the capacities are no larger than the largest tables
pub record Small (room : List ℕ) : Type 0 where
  pub small : (k : ℕ) → k < 10 → word room k ≤ word largest_tables k

-- a record's part is no larger than the largest
pub record Strides (strides : List ℕ) : Type 0 where
  pub small : (k : ℕ) → k < 10 → word strides k ≤ 1026

-- record i of table k has room, and the lent memory is long enough for all tables
pub record Inside (needed long : ℕ) (room : List ℕ) (k i : ℕ) : Type 0 where
  pub enough : needed ≤ long
  pub table : k < 10
  pub slot : i < word room k

-- the words and the floats of a whole record of table k
pub record Whole (k : ℕ) (w : List ℕ) (x : List Float) : Type 0 where
  pub table : k < 10
  pub words : length w ≡ word word_strides k
  pub reals : length x ≡ word real_strides k

-- the capacities and the lent memory agree
pub record Lent (room w : List ℕ) (x : List Float) : Type 0 where
  pub small : Small room
  pub words : words_needed room ≤ length w
  pub reals : reals_needed room ≤ length x

-- and so do the used counts
pub record Sized (room w : List ℕ) (x : List Float) : Type 0 where
  pub small : Small room
  pub words : words_needed room ≤ length w
  pub reals : reals_needed room ≤ length x
  pub counts : (k : ℕ) → k < 10 → word w k ≤ word room k

-- the memory is readable
pub record Fit (room w : List ℕ) (x : List Float) : Type 0 where
  pub sized : Sized room w x
  pub version : version_ok (word w VERSION) ≡ true
  pub precision : precision_ok (real x PRECISION) ≡ true
  pub rows : (k i : ℕ) → k < 10 → i < word w k → record_ok k (words_of room w k i) (reals_of room x k i) ≡ true

-- a list that stands whole at a place of a record
pub record Held (w : List ℕ) (at : ℕ) : Type 0 where
  pub place : at < length w
  pub whole : at + word w at < length w

-- the eight lists of the used records stand whole
pub record Lists (room w : List ℕ) : Type 0 where
  pub small : Small room
  pub words : words_needed room ≤ length w
  pub counts : (k : ℕ) → k < 10 → word w k ≤ word room k
  pub short : (j i : ℕ) → j < 8 → i < word w (word list_tables j) → word (words_of room w (word list_tables j) i) (word list_places j) ≤ word list_limits j
