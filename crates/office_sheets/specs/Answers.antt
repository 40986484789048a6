-- What a body taken in on a stone sheet answers an office (W-201), and the sheet behind the call. Definitions only.
-- Which stone the body is, and what refuses it, stands in `inquire_stone`; what five words tell, in `sheet_words`.
use Rattle.std.specs.Prelude.{ℕ, List, ltb, Float}
use Rattle.geom_lines_planes.specs.Refuse.{◌unless◌, ◌then◌}
use Rattle.meaning_sheets.specs.Sheets.{sheet_readable, with_stone, stone_of}
use Rattle.memory_layout.specs.Decode.{decode}
use Rattle.memory_writes.specs.Put.{unless_refused}
use Rattle.memory_offices.specs.Sight.{by_office, body_asked}
use Rattle.inquire_stone.specs.Answers.{stone_number}
use Rattle.sheet_words.specs.declared.StoneSheet.{StoneSheet}
use Rattle.sheet_words.specs.Words.{sheet_of, words_of_sheet}

module _ (room w : List ℕ) (x : List Float) (o b : ℕ) (face_marks : List ℕ) (s : StoneSheet) where
  -- "Refusals: 9 for a sheet of over 65,536 stones or with a total above 3·2^60 in size per stone, then all volume refusals, .. then 8 where the sheet already has 65,536 stones"
  unfoldable pub take_number : ℕ
  take_number =
      9 unless sheet_readable (sheet_of s)
      then by_office room w x o (stone_number room w x (body_asked room w x o b) face_marks then 8 unless ltb s.stones 65536)

  -- "A refused body leaves the sheet as found"
  unfoldable pub taken_sheet : StoneSheet
  taken_sheet = unless_refused take_number (words_of_sheet (with_stone (sheet_of s) (stone_of (decode room w x) (body_asked room w x o b)))) s
