-- What a mending of a body and its dry run answer an office, and what they leave (W-208). Definitions only.
use Rattle.std.specs.Prelude.{ℕ, List, length, Float}
use Rattle.memory_offices.specs.Sight.{by_office, body_asked}
use Rattle.memory_writes.specs.Put.{over, unless_refused}
use Rattle.meaning_mends.specs.Mends.{Change}
use Rattle.meaning_mends.specs.Words.{changes_words}
use Rattle.mend_writes.specs.Made.{made_words}
use Rattle.mend_body.specs.Answers.{changes_on, mend_number}

module _ (room w : List ℕ) (x : List Float) (o b : ℕ) where
  -- the changes of the body that the id is for the office
  abbrev pub office_changes : List Change
  office_changes = changes_on room w x (body_asked room w x o b)

  unfoldable pub office_mend_number : List ℕ → List ℕ → ℕ
  office_mend_number marks nums = by_office room w x o (mend_number room w x (body_asked room w x o b) marks nums)

  unfoldable pub office_mend_count : List ℕ → List ℕ → ℕ
  office_mend_count marks nums = unless_refused (office_mend_number marks nums) (length office_changes) 0

  unfoldable pub office_mend_list : List ℕ → List ℕ → List ℕ
  office_mend_list marks nums = unless_refused (office_mend_number marks nums) (over 0 (changes_words office_changes) nums) nums

  unfoldable pub office_mend_words : List ℕ → List ℕ → List ℕ
  office_mend_words marks nums = unless_refused (office_mend_number marks nums) (made_words room w office_changes) w
