-- The theorems of specs/Statements.antt that rest on places-stay and slots-stay. Assumes nothing.
use Prim.Native.Nat.{ℕ, ◌+◌, ◌≤◌, ◌<◌}
use Rattle.std.specs.Prelude.{◌≡◌, List, [], get_or, Float}
use Rattle.memory_layout.specs.Layout.{word, words_of, reals_of}
use Rattle.image_format.specs.Fields.{list_limits_of, list_counts, list_places_of}
use Rattle.image_format.specs.Image.{count_in, records_in}
use Rattle.image_reader.specs.Answers.{read_number, read_words, read_reals}
use Rattle.image_reader.specs.Laws.{taken}
use Rattle.image_effects.specs.Statements.{slots-stay, places-stay}

-- ---- the call

module _ (room w : List ℕ) (x : List Float) (b : List ℕ) where
  module _ (e : read_number room w x b ≡ 0) where
    -- "The reader replaces the old model untested; slots beyond the new counts stay"
    pub unused-slots-stay : (k i : ℕ) → k < 10 → count_in (records_in b) k ≤ i → i < word room k
        → (words_of room (read_words room w x b) k i ≡ words_of room w k i) × (reals_of room (read_reals room w x b) k i ≡ reals_of room x k i)
    unfolding read_words read_reals
    unused-slots-stay k i h u g = let t = taken room w x b e in rw e (slots-stay room w x b t.image t.lent t.enough k i h u g)

    -- and so does, in each record that is replaced, every place behind the last entry of its list j
    pub unused-places-stay : (k i j q : ℕ) → k < 10 → i < count_in (records_in b) k → j < word list_counts k
        → word (get_or list_places_of k []) j + word (words_of room (read_words room w x b) k i) (word (get_or list_places_of k []) j) < q
        → q ≤ word (get_or list_places_of k []) j + word (get_or list_limits_of k []) j
        → word (words_of room (read_words room w x b) k i) q ≡ word (words_of room w k i) q
    unfolding read_words
    unused-places-stay k i j q h u g = let t = taken room w x b e in rw e (places-stay room w x b t.image t.lent t.enough k i j q h u g)
