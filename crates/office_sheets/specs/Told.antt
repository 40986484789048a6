-- A take told from a stone. No reader of a public promise needs this file. Definitions only.
use Rattle.std.specs.Prelude.{ℕ, ltb}
use Rattle.std.proofs.Math.IntN.{sub_ℕ}
use Rattle.geom_lines_planes.specs.Refuse.{◌unless◌, ◌then◌}
use Rattle.meaning_sheets.specs.Sheets.{with_stone}
use Rattle.memory_writes.specs.Put.{unless_refused}
use Rattle.inquire_stone.specs.declared.Stone.{Stone}
use Rattle.sheet_words.specs.declared.StoneSheet.{StoneSheet}
use Rattle.sheet_words.specs.Words.{sheet_of, words_of_sheet}
use Rattle.office_sheets.specs.declared.TakenIn.{TakenIn}

abbrev pub told_number : StoneSheet → Stone → ℕ
told_number s t = t.refused then 8 unless ltb s.stones 65536

-- a number, and the new sheet where it is 0
abbrev pub take_with : ℕ → StoneSheet → StoneSheet → TakenIn
take_with n new old = record { refused = n; sheet = unless_refused n new old }

unfoldable pub told_take : StoneSheet → ℕ → Stone → TakenIn
told_take s b t = take_with (told_number s t) (words_of_sheet (with_stone (sheet_of s) (record { body = b; number = sub_ℕ t.plus t.minus }))) s
