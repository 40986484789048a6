-- What `body_stone` answers (W-201; 01, "Every call tests 9 first"; "Marks shorter than their table's capacity give 8, right after 9"). Definitions only.
use Rattle.std.specs.Prelude.{ℕ, List, Float}
use Rattle.geom_lines_planes.specs.Refuse.{◌unless◌, ◌then◌}
use Rattle.meaning.specs.Inquire.{solid_sides}
use Rattle.meaning_sheets.specs.Sheets.{stone_refusal}
use Rattle.meaning_sheet_laws.specs.Parts.{plus_sum, minus_sum}
use Rattle.memory_layout.specs.Names.{FACES}
use Rattle.memory_layout.specs.Decode.{decode}
use Rattle.memory_layout.specs.Readable.{readable}
use Rattle.memory_writes.specs.Put.{unless_refused}
use Rattle.walk_answers.specs.Calls.{reach}
use Rattle.inquire_stone.specs.declared.Stone.{Stone}

module _ (room w : List ℕ) (x : List Float) (b : ℕ) (face_marks : List ℕ) where
  unfoldable pub stone_number : ℕ
  stone_number =
      9 unless readable room w x
      then 8 unless reach room FACES face_marks
      then stone_refusal (decode room w x) b

  -- what is above zero, and what is below it: their difference is `six_volume`
  unfoldable pub stone_answer : Stone
  stone_answer =
      record {
        refused = stone_number;
        plus = unless_refused stone_number (plus_sum (decode room w x) (solid_sides (decode room w x) b)) 0;
        minus = unless_refused stone_number (minus_sum (decode room w x) (solid_sides (decode room w x) b)) 0;
      }
