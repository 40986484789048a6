-- The model of an image laid over the lent memory (W-202, "The reader replaces the old model untested; slots beyond the new counts stay"). Definitions only.
-- What stands behind the end of a list stays too.
use Rattle.std.specs.Prelude.{ℕ, zero, suc, cond, List, [], ◌∷◌, eqb, length, get_or, drop, Float}
use Rattle.memory_layout.specs.Names.{BODIES, AT_BODY_KIND}
use Rattle.memory_layout.specs.Layout.{word, words_of}
use Rattle.memory_layout.specs.Laid.{office}
use Rattle.memory_writes.specs.Put.{over, put_words, put_reals}
use Rattle.image_format.specs.Fields.{Fields, PRECISION_RECORD, list_places_of, fields_in}
use Rattle.image_format.specs.Image.{count_in, fields_at}

-- ---- one record

-- lists at their places, each its length and then its entries
unfoldable pub lists_laid : List ℕ → List (List ℕ) → List ℕ → List ℕ
lists_laid [] l w = w
lists_laid (p ∷ places) l w = lists_laid places (drop 1 l) (over p (length (get_or l 0 []) ∷ get_or l 0 []) w)

-- the numbers at the front of a record of table k: the image's, and of a body the office behind its kind (W-206), which the mark tells
unfoldable pub front_of : ℕ → Fields → List ℕ
front_of k f = cond (eqb k BODIES) (word f.words AT_BODY_KIND ∷ office f.office ∷ []) f.words

-- the words of a record of table k, with these fields
unfoldable pub record_laid : ℕ → Fields → List ℕ → List ℕ
record_laid k f w = lists_laid (get_or list_places_of k []) f.lists (over 0 (front_of k f) w)

-- ---- the tables, from the image b

module _ (room b : List ℕ) where
  -- the first n records of table k
  unfoldable pub records_laid : ℕ → ℕ → List ℕ → List ℕ
  records_laid k zero w = w
  records_laid k (suc i) w = let v = records_laid k i w in put_words room k i (record_laid k (fields_at b k i) (words_of room v k i)) v

  unfoldable pub floats_laid : ℕ → ℕ → List Float → List Float
  floats_laid k zero x = x
  floats_laid k (suc i) x = put_reals room k i (fields_at b k i).floats (floats_laid k i x)

  -- the counts, and the first k tables
  unfoldable pub words_laid : ℕ → List ℕ → List ℕ
  words_laid zero w = over 0 (fields_in PRECISION_RECORD b).words w
  words_laid (suc k) w = records_laid k (count_in b k) (words_laid k w)

  -- the precision, and the first k tables
  unfoldable pub reals_laid : ℕ → List Float → List Float
  reals_laid zero x = over 0 (fields_in PRECISION_RECORD b).floats x
  reals_laid (suc k) x = floats_laid k (count_in b k) (reals_laid k x)
