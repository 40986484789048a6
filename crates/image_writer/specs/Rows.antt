-- The image as the code makes it: the version's record and the precision's, then table by table, record by record; and its length. No reader of a public promise needs this file. Definitions only.
use Rattle.std.specs.Prelude.{ℕ, zero, suc, ◌+◌, ◌*◌, ◌≤◌, ◌<◌, List, ◌++◌, length, take, Float}
use Rattle.meaning.specs.Lists.{run, joined}
use Rattle.memory_layout.specs.Names.{VERSION}
use Rattle.memory_layout.specs.Layout.{word_strides, real_strides, word, words_needed, words_of, reals_of}
use Rattle.memory_layout.specs.Decode.{version_of}
use Rattle.memory_layout.specs.Fit.{Small}
use Rattle.memory_layout.specs.TableRows.{row, TableRows}
use Rattle.image_format.specs.Bytes.{little, words, floats}
use Rattle.image_format.specs.Fields.{PRECISION_RECORD, marks, record_image}
use Rattle.image_format.specs.Image.{version_image}
use Rattle.image_records.specs.Kept.{fields_of, Kept, record_length, Listed}

-- ---- records of table k that stand one behind the other in the words w and the floats x

abbrev pub row_words : ℕ → List ℕ → ℕ → List ℕ
row_words k w i = row w (word word_strides k) i

abbrev pub row_reals : ℕ → List Float → ℕ → List Float
row_reals k x i = row x (word real_strides k) i

-- the images of the first n
unfoldable pub rows_image : ℕ → List ℕ → List Float → ℕ → List ℕ
rows_image k w x n = joined (λ i. record_image k (fields_of k (row_words k w i) (row_reals k x i))) (run 0 n)

-- f 0 + .. + f (n - 1)
unfoldable pub total : (ℕ → ℕ) → ℕ → ℕ
total f zero = 0
total f (suc n) = total f n + f n

unfoldable pub rows_length : ℕ → List ℕ → ℕ → ℕ
rows_length k w n = total (λ i. record_length k (row_words k w i)) n

-- n records, of which each passes its test
pub record Rows (k n : ℕ) (w : List ℕ) (x : List Float) : Type 0 where
  pub rows : TableRows k n w x
  pub kept : (i : ℕ) → i < n → Kept k (row_words k w i) (row_reals k x i)

-- and their words alone
pub record WordRows (k n : ℕ) (w : List ℕ) : Type 0 where
  pub table : k < 10
  pub few : n ≤ 4096
  pub words : word word_strides k * n ≤ length w
  pub listed : (i : ℕ) → i < n → Listed k (row_words k w i)

-- ---- the version's record, and the tables

unfoldable pub version_bytes : List ℕ → List ℕ
version_bytes w = version_image (version_of (word w VERSION))

module _ (room w : List ℕ) where
  unfoldable pub table_length : ℕ → ℕ
  table_length k = total (λ i. record_length k (words_of room w k i)) (word w k)

  -- the precision's record, and k tables
  unfoldable pub tables_length : ℕ → ℕ
  tables_length k = 50 + total table_length k

  unfoldable pub image_length : ℕ
  image_length = length (version_bytes w) + tables_length 10

  -- the tables' words, whose records have their lists whole
  pub record Used : Type 0 where
    pub small : Small room
    pub words : words_needed room ≤ length w
    pub counts : (k : ℕ) → k < 10 → word w k ≤ word room k
    pub listed : (k i : ℕ) → k < 10 → i < word w k → Listed k (words_of room w k i)

-- the precision's record, of the ten used counts and the first float
unfoldable pub precision_bytes : List ℕ → List Float → List ℕ
precision_bytes w x = little 2 (word marks PRECISION_RECORD) ++ words (take 10 w) ++ floats (take 1 x)

module _ (room w : List ℕ) (x : List Float) where
  unfoldable pub table_of : ℕ → List ℕ
  table_of k = joined (λ i. record_image k (fields_of k (words_of room w k i) (reals_of room x k i))) (run 0 (word w k))

  -- k tables
  unfoldable pub tables_of : ℕ → List ℕ
  tables_of k = joined table_of (run 0 k)
