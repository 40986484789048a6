-- What the call about the stone sheet answers an office (W-201, whose words are quoted): the number and the sheet of `meaning_sheets`, of the model that the lent memory holds and of the sheet that
-- the five words tell (`sheet_of`). Every word is below 2^64, so what is asked of the word of the largest stone holds of any sheet. Assumes nothing.
use Prim.Native.Nat.{ℕ, zero, suc}
use Rattle.std.specs.Prelude.{◌≡◌, Bool, List, Float}
use Rattle.std.proofs.Math.Path.{refl, ap}
use Rattle.std.proofs.Common.{sym, ◌∙◌}
use Rattle.std.proofs.Math.Bool.{true, false}
use Rattle.std.proofs.lemmas.Bool.{false≢true}
use Rattle.std.proofs.Math.Dec.{ltb}
use Rattle.geom_lines_planes.specs.Refuse.{◌unless◌, ◌then◌}
use Rattle.meaning.specs.Offices.{office_refusal, body_for}
use Rattle.meaning_sheets.specs.Sheets.{stone_refusal, sheet_readable}
use Rattle.meaning_list_laws.specs.Tests.{then-zero, then-assoc, unless-zero}
use Rattle.memory_layout.specs.Names.{FACES}
use Rattle.memory_layout.specs.Decode.{decode}
use Rattle.memory_layout.specs.Readable.{readable}
use Rattle.memory_writes.specs.Put.{unless_refused}
use Rattle.memory_offices.specs.Sight.{by_office}
use Rattle.walk_answers.specs.Calls.{reach}
use Rattle.inquire_stone.specs.Answers.{stone_number}
use Rattle.sheet_words.specs.declared.StoneSheet.{StoneSheet}
use Rattle.sheet_words.specs.Words.{sheet_of}
use Rattle.office_sheets.specs.Answers.{take_number, taken_sheet}

module _ (room w : List ℕ) (x : List Float) (o b : ℕ) (face_marks : List ℕ) (s : StoneSheet) where
  -- ---- the number

  -- "9 for a sheet of over 65,536 stones or with a total above 3·2^60 in size per stone", then 9 of the memory, 1 of the office and 8 of the marks, "then all volume refusals, .. then 8 where the sheet already has 65,536 stones"
  pub take-told : take_number room w x o b face_marks s
      ≡ (9 unless sheet_readable (sheet_of s) then 9 unless readable room w x then office_refusal o then 8 unless reach room FACES face_marks
      then stone_refusal (decode room w x) (body_for (decode room w x) o b) then 8 unless ltb (sheet_of s).stones 65536)
  unfolding take_number by_office stone_number sheet_of
  take-told =
      let m = decode room w x in
      ap (λ n. 9 unless sheet_readable (sheet_of s) then n)
      (parts (readable room w x) (office_refusal o) (8 unless reach room FACES face_marks) (stone_refusal m (body_for m o b)) (8 unless ltb s.stones 65536))
    where
      parts : (t : Bool) (a c d e : ℕ) → (9 unless t then a then (9 unless t then c then d) then e) ≡ (9 unless t then a then c then d then e)
      parts true a c d e = ap (λ n. a then n) (then-assoc c d e)
      parts false a c d e = refl

  -- what is known where nothing is refused
  module _ (z : take_number room w x o b face_marks s ≡ 0) where
    pub sheet-read : sheet_readable (sheet_of s) ≡ true
    unfolding take_number
    sheet-read = unless-zero 8 (sheet_readable (sheet_of s)) (then-zero (9 unless sheet_readable (sheet_of s)) _ z).0

  -- ---- the sheet

  -- "A refused body leaves the sheet as found": all five words
  pub sheet-kept : (take_number room w x o b face_marks s ≡ 0 → ⊥) → taken_sheet room w x o b face_marks s ≡ s
  unfolding taken_sheet
  sheet-kept z = by (take_number room w x o b face_marks s) _ z
    where
      by : (n : ℕ) (new : StoneSheet) → (n ≡ 0 → ⊥) → unless_refused n new s ≡ s
      by zero new q = absurd (q refl)
      by (suc n) new q = refl

  -- a sheet that cannot be read stays too
  pub unread-kept : sheet_readable (sheet_of s) ≡ false → taken_sheet room w x o b face_marks s ≡ s
  unread-kept e = sheet-kept (λ z. false≢true (sym e ∙ sheet-read z))
