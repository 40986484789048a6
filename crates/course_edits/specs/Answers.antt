-- What making and editing a course table answers, and what it leaves in the lent words (W-213; 01, "Edits and appended entries give 1, then 2 (edited record missing), 1 for a list place that isn't there, then 8").
-- An entry may name no body and no course: "Inserts check no reference". Definitions only.
use Rattle.std.specs.Prelude.{ℕ, ◌+◌, ◌-◌, ◌*◌, Bool, true, cond, ◌&&◌, List, leb, ltb, length, set}
use Rattle.geom_lines_planes.specs.Refuse.{◌unless◌, ◌then◌}
use Rattle.meaning.specs.Edits.{appended}
use Rattle.memory_layout.specs.Layout.{word}
use Rattle.memory_layout.specs.Decode.{list_at}
use Rattle.memory_writes.specs.Put.{unless_refused}
use Rattle.edit_lists.specs.Place.{struck, with_list}
use Rattle.course_table.specs.Table.{course_at, courses_ok}

-- ---- an entry

-- its tag, 0 for a body and 1 for a course, and its id: what its word has room for
abbrev pub entry_good : ℕ → ℕ → Bool
entry_good tag id = leb tag 1 && ltb id 65536

abbrev pub entry_word : ℕ → ℕ → ℕ
entry_word tag id = tag * 65536 + id

abbrev pub tag_of : ℕ → ℕ
tag_of e = cond (ltb e 65536) 0 1

abbrev pub id_of : ℕ → ℕ
id_of e = cond (ltb e 65536) e (e - 65536)

-- ---- what refuses

-- how many entries a course has
abbrev pub length_of : List ℕ → ℕ → ℕ
length_of w c = word w (course_at c)

abbrev pub entry_at : List ℕ → ℕ → ℕ → ℕ
entry_at w c p = word (list_at w (course_at c)) p

-- 9, 1 for what is no entry, 2 for a missing course
unfoldable pub open_number : List ℕ → Bool → ℕ → ℕ
open_number w good c = 9 unless courses_ok w then 1 unless good then 2 unless ltb c (word w 0)

-- then 1 for a place that isn't there
unfoldable pub place_number : List ℕ → Bool → ℕ → ℕ → ℕ
place_number w good c p = open_number w good c then 1 unless ltb p (length_of w c)

-- or 8 for a course of 16 entries
unfoldable pub room_number : List ℕ → Bool → ℕ → ℕ
room_number w good c = open_number w good c then 8 unless ltb (length_of w c) 16

-- ---- the calls

-- an empty table needs the word of its count
unfoldable pub make_number : List ℕ → ℕ
make_number w = 9 unless ltb 0 (length w)

unfoldable pub made_words : List ℕ → List ℕ
made_words w = unless_refused (make_number w) (set w 0 0) w

unfoldable pub count_number : List ℕ → ℕ
count_number w = 9 unless courses_ok w

-- "A lent table holds up to 256 courses", and no more than there are words for
unfoldable pub insert_number : List ℕ → ℕ
insert_number w = 9 unless courses_ok w then 8 unless (ltb (word w 0) 256 && leb (course_at (word w 0 + 1)) (length w))

unfoldable pub inserted_words : List ℕ → List ℕ
inserted_words w = unless_refused (insert_number w) (set (set w (course_at (word w 0)) 0) 0 (word w 0 + 1)) w

module _ (w : List ℕ) (c : ℕ) where
  abbrev pub append_number : ℕ → ℕ → ℕ
  append_number tag id = room_number w (entry_good tag id) c

  unfoldable pub appended_words : ℕ → ℕ → List ℕ
  appended_words tag id = unless_refused (append_number tag id) (with_list (course_at c) (appended (list_at w (course_at c)) (entry_word tag id)) w) w

  abbrev pub put_number : ℕ → ℕ → ℕ → ℕ
  put_number p tag id = place_number w (entry_good tag id) c p

  unfoldable pub put_words : ℕ → ℕ → ℕ → List ℕ
  put_words p tag id = unless_refused (put_number p tag id) (with_list (course_at c) (set (list_at w (course_at c)) p (entry_word tag id)) w) w

  -- without an entry, or an entry read
  abbrev pub strike_number : ℕ → ℕ
  strike_number p = place_number w true c p

  unfoldable pub struck_words : ℕ → List ℕ
  struck_words p = unless_refused (strike_number p) (with_list (course_at c) (struck (list_at w (course_at c)) p) w) w
