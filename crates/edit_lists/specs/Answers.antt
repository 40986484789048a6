-- What editing a list answers, and what it leaves in the lent memory (model.rs, `RawEditor`; 01, "Edits and appended entries give 1, then 2 (edited record missing),
-- 1 for a list place that isn't there, then 8"). The lists are those of `memory_layout`, by number; an entry may name no record. Definitions only.
use Rattle.std.specs.Prelude.{ℕ, ◌+◌, true, List, ltb, length, set, Float}
use Rattle.geom_lines_planes.specs.Refuse.{◌unless◌, ◌then◌}
use Rattle.meaning.specs.Edits.{edit_refusal, appended}
use Rattle.memory_layout.specs.Layout.{word, word_at}
use Rattle.memory_layout.specs.Readable.{readable}
use Rattle.memory_layout.specs.Entries.{list_tables, list_places, list_limits, list_of, entry_refusal}
use Rattle.memory_writes.specs.Put.{unless_refused}
use Rattle.edit_lists.specs.Place.{struck, with_list}

-- where list j of record i stands among the words
unfoldable pub list_start : List ℕ → ℕ → ℕ → ℕ
list_start room j i = word_at room (word list_tables j) i + word list_places j

-- the words with l as list j of record i
unfoldable pub list_words : List ℕ → List ℕ → ℕ → ℕ → List ℕ → List ℕ
list_words room w j i l = with_list (list_start room j i) l w

module _ (room w : List ℕ) (x : List Float) where
  -- another id at a place, or the entry at a place struck: where there is an entry
  unfoldable pub put_entry_words : ℕ → ℕ → ℕ → ℕ → List ℕ
  put_entry_words j i place id = unless_refused (entry_refusal room w x j i place) (list_words room w j i (set (list_of room w j i) place id)) w

  unfoldable pub strike_entry_words : ℕ → ℕ → ℕ → List ℕ
  strike_entry_words j i place = unless_refused (entry_refusal room w x j i place) (list_words room w j i (struck (list_of room w j i) place)) w

  -- an entry more: where the list is not full
  unfoldable pub append_number : ℕ → ℕ → ℕ
  append_number j i =
      9 unless readable room w x
      then edit_refusal (ltb j 8) (ltb i (word w (word list_tables j))) true (ltb (length (list_of room w j i)) (word list_limits j))

  unfoldable pub append_entry_words : ℕ → ℕ → ℕ → List ℕ
  append_entry_words j i id = unless_refused (append_number j i) (list_words room w j i (appended (list_of room w j i) id)) w
