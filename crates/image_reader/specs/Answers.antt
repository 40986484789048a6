-- What reading an image into lent memory answers, and what it leaves there (W-202, "refused before any table is written. The reader replaces the old model untested; slots beyond the new counts stay.
-- Refusals: 9 for the image, then 8 where the lent tables .. are too short"; W-211, "A model names its version"). Definitions only.
use Rattle.std.specs.Prelude.{ℕ, Bool, List, [], ◌∷◌, leb, Float}
use Rattle.geom_lines_planes.specs.Refuse.{◌unless◌, ◌then◌}
use Rattle.meaning.specs.Lists.{all_below}
use Rattle.memory_layout.specs.Names.{VERSION}
use Rattle.memory_layout.specs.Layout.{word}
use Rattle.memory_layout.specs.Laid.{version_tag}
use Rattle.memory_layout.specs.Readable.{lent_ok}
use Rattle.memory_writes.specs.Put.{over, unless_refused}
use Rattle.image_format.specs.Image.{count_in, version_in, records_in, accepted}
use Rattle.image_loading.specs.Laid.{words_laid, reals_laid}

-- each table of the lent memory has a slot for every one of an image's records b
unfoldable pub room_for : List ℕ → List ℕ → Bool
room_for room b = all_below (λ k. leb (count_in b k) (word room k)) 10

-- the version of the image b in its place among the words
abbrev pub version_laid : List ℕ → List ℕ → List ℕ
version_laid b w = over VERSION (version_tag (version_in b) ∷ []) w

module _ (room w : List ℕ) (x : List Float) (b : List ℕ) where
  -- what is lent must hold the tables, whatever stands in it, as for a model that is made
  unfoldable pub read_number : ℕ
  read_number = 9 unless lent_ok room w x then 9 unless accepted b then 8 unless room_for room (records_in b)

  unfoldable pub read_words : List ℕ
  read_words = unless_refused read_number (words_laid room (records_in b) 10 (version_laid b w)) w

  unfoldable pub read_reals : List Float
  read_reals = unless_refused read_number (reals_laid room (records_in b) 10 x) x
