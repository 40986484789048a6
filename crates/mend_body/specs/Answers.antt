-- What a mending and its dry run answer, and what they leave in the lent list and in the tables (W-208). Definitions only.
use Rattle.std.specs.Prelude.{ℕ, ◌/◌, List, leb, length, Float}
use Rattle.geom_lines_planes.specs.Refuse.{◌unless◌, ◌then◌}
use Rattle.memory_layout.specs.Decode.{decode}
use Rattle.memory_layout.specs.Readable.{readable}
use Rattle.memory_writes.specs.Put.{over, unless_refused}
use Rattle.meaning_mends.specs.Mends.{Change, changes, mend_refusal}
use Rattle.meaning_mends.specs.Words.{changes_words}
use Rattle.mend_meetings.specs.Machine.{MARKS}
use Rattle.mend_writes.specs.Made.{made_words}

module _ (room w : List ℕ) (x : List Float) (b : ℕ) where
  -- the changes of the body that the memory holds
  abbrev pub changes_on : List Change
  changes_on = changes (decode room w x) b

  -- 01, "Every call tests 9 first", "Marks shorter .. give 8, right after 9"; a change takes six words of the list
  unfoldable pub mend_number : List ℕ → List ℕ → ℕ
  mend_number marks nums = 9 unless readable room w x then 8 unless leb MARKS (length marks) then mend_refusal (decode room w x) b (length nums / 6)

  -- "It reports every change in walk order": how many there are, and their words in front of the list; a refusal leaves it as it was
  unfoldable pub mend_count : List ℕ → List ℕ → ℕ
  mend_count marks nums = unless_refused (mend_number marks nums) (length changes_on) 0

  unfoldable pub mend_list : List ℕ → List ℕ → List ℕ
  mend_list marks nums = unless_refused (mend_number marks nums) (over 0 (changes_words changes_on) nums) nums

  -- the words of the tables behind a mending
  unfoldable pub mend_words : List ℕ → List ℕ → List ℕ
  mend_words marks nums = unless_refused (mend_number marks nums) (made_words room w changes_on) w
