-- What the functions may rely on behind the tests of an image. No reader of a public promise needs this file. Definitions only.
use Rattle.std.specs.Prelude.{ℕ, ◌≤◌, ◌<◌, ◌≡◌, true, List, [], length, get_or, Float}
use Rattle.memory_layout.specs.Layout.{word}
use Rattle.memory_layout.specs.Fit.{Lent}
use Rattle.image_format.specs.Fields.{list_limits_of, fields_in}
use Rattle.image_format.specs.Image.{count_in, behind_records, table_bytes}
use Rattle.image_record_test.specs.Good.{record_size}
use Rattle.image_record_test.specs.Spelled.{within}

-- a record of table k lies whole at the front of the bytes s, and its lists are within their limits
pub record Lies (k : ℕ) (s : List ℕ) : Type 0 where
  pub table : k < 10
  pub long : record_size k s ≤ length s
  pub short : within (get_or list_limits_of k []) (fields_in k s).lists ≡ true

-- every record of the image does, and the lent memory has room for all of them
pub record Loadable (room w : List ℕ) (x : List Float) (b : List ℕ) : Type 0 where
  pub lent : Lent room w x
  pub counts : (k : ℕ) → k < 10 → count_in b k ≤ word room k
  pub head : 50 ≤ length b
  pub lies : (k i : ℕ) → k < 10 → i < count_in b k → Lies k (behind_records k i (table_bytes b k))
