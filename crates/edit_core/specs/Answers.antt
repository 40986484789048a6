-- What inserting and editing answer, and what they leave in the lent memory (model.rs, `RawEditor`;
-- 01, "Every call tests 9 first. Inserts check no reference and give 1 before 8. Edits .. give 1, then 2 (edited record missing)"). Definitions only.
use Rattle.std.specs.Prelude.{ℕ, Bool, true, List, ltb, Float}
use Rattle.geom_lines_planes.specs.Refuse.{◌unless◌, ◌then◌, answer}
use Rattle.meaning.specs.Edits.{insert_refusal, edit_refusal}
use Rattle.memory_layout.specs.Layout.{word, words_of}
use Rattle.memory_layout.specs.Decode.{table}
use Rattle.memory_layout.specs.Readable.{readable}
use Rattle.memory_writes.specs.Put.{over, put_words, put_reals, new_words, counted, unless_refused}
use Rattle.edit_core.specs.declared.Inserted.{Inserted}
use Rattle.edit_core.specs.declared.Inserted.TheVariants.{At, Refused}

module _ (room w : List ℕ) (x : List Float) where
  -- ---- a record more in table k: ok where its values are, f its fields, s its floats

  unfoldable pub insert_number : Bool → ℕ → ℕ
  insert_number ok k = 9 unless readable room w x then insert_refusal ok (table room w x k (λ r _. r)) (word room k)

  unfoldable pub insert_answer : Bool → ℕ → Inserted
  insert_answer ok k = answer At Refused (insert_number ok k) (word w k)

  unfoldable pub insert_words : Bool → ℕ → List ℕ → List ℕ
  insert_words ok k f = unless_refused (insert_number ok k) (counted k (put_words room k (word w k) (new_words k f) w)) w

  unfoldable pub insert_reals : Bool → ℕ → List Float → List Float
  insert_reals ok k s = unless_refused (insert_number ok k) (put_reals room k (word w k) s x) x

  -- ---- other fields f from place p on, and other floats s, in record i of table k

  unfoldable pub edit_number : Bool → ℕ → ℕ → ℕ
  edit_number ok k i = 9 unless readable room w x then edit_refusal ok (ltb i (word w k)) true true

  unfoldable pub edit_words : Bool → ℕ → ℕ → ℕ → List ℕ → List ℕ
  edit_words ok k i p f = unless_refused (edit_number ok k i) (put_words room k i (over p f (words_of room w k i)) w) w

  unfoldable pub edit_reals : Bool → ℕ → ℕ → List Float → List Float
  edit_reals ok k i s = unless_refused (edit_number ok k i) (put_reals room k i s x) x
