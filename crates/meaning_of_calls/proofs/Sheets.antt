-- What the call about the stone sheet makes of the sheet, and that it is the same on two memories: the theorems of specs/Sheets.antt that rest on `take-told`. Assumes nothing.
use Prim.Native.Nat.{ℕ, zero, suc, ◌*◌, ◌^◌, ◌≤◌, ◌<◌}
use Rattle.std.specs.Prelude.{◌≡◌, List, nat_abs, ◌+ℤ◌, Float}
use Rattle.std.proofs.Math.Path.{refl, ap}
use Rattle.std.proofs.Common.{sym, ◌∙◌}
use Rattle.std.proofs.Math.Bool.{true}
use Rattle.std.proofs.Math.Dec.{ltb}
use borrow.Author.Tests.{ltb-true}
use Rattle.geom_lines_planes.specs.Refuse.{◌unless◌, ◌then◌}
use Rattle.meaning.specs.Offices.{office_refusal, body_for}
use Rattle.meaning_sheets.specs.Sheets.{Stone, Sheet, six_volume, stone_refusal, with_stone, sheet_readable, take_refusal, stone_of, where_taken, sheet_after}
use Rattle.meaning_list_laws.specs.Tests.{then-zero, unless-zero}
use Rattle.meaning_sheet_laws.proofs.Sizes.{stone-taken}
use Rattle.meaning_isolation.specs.Told.{body_stone}
use Rattle.meaning_isolation.specs.Weighed.{told-number, told-stone}
use Rattle.memory_layout.specs.Names.{FACES}
use Rattle.memory_layout.specs.Decode.{decode}
use Rattle.memory_layout.specs.Readable.{readable}
use Rattle.memory_writes.specs.Put.{unless_refused}
use Rattle.walk_answers.specs.Calls.{reach}
use Rattle.sheet_words.specs.declared.StoneSheet.{StoneSheet}
use Rattle.sheet_words.specs.Words.{sheet_of, words_of_sheet}
use Rattle.sheet_words.specs.Laws.{stays-readable, taken_back}
use Rattle.office_sheets.specs.Answers.{take_number, taken_sheet}
use Rattle.meaning_of_calls.specs.Sheets.{take-told, sheet-read}

module _ (room w : List ℕ) (x : List Float) (o b : ℕ) (face_marks : List ℕ) (s : StoneSheet) where
  -- on readable memory with marks that are long enough it is the definition's
  pub take-is : readable room w x ≡ true → reach room FACES face_marks ≡ true → take_number room w x o b face_marks s ≡ take_refusal (decode room w x) o b (sheet_of s)
  unfolding take_refusal
  take-is r k = take-told room w x o b face_marks s ∙ rw (r, k)

  -- what is known where nothing is refused
  module _ (z : take_number room w x o b face_marks s ≡ 0) where
    behind : (stone_refusal (decode room w x) (body_for (decode room w x) o b) ≡ 0) × (8 unless ltb (sheet_of s).stones 65536 ≡ 0)
    behind =
        let all = sym (take-told room w x o b face_marks s) ∙ z in
        let sight = (then-zero (9 unless readable room w x) _ (then-zero (9 unless sheet_readable (sheet_of s)) _ all).1).1 in
        then-zero (stone_refusal (decode room w x) (body_for (decode room w x) o b)) _ (then-zero (8 unless reach room FACES face_marks) _ (then-zero (office_refusal o) _ sight).1).1

    pub stone-given : stone_refusal (decode room w x) (body_for (decode room w x) o b) ≡ 0
    stone-given = behind.0

    room-left : s.stones < 65536
    unfolding sheet_of
    room-left = ltb-true s.stones 65536 (unless-zero 7 (ltb s.stones 65536) behind.1)

    size : nat_abs (six_volume (decode room w x) (body_for (decode room w x) o b)) ≤ 3 * 2 ^ 60
    size = stone-taken (decode room w x) (body_for (decode room w x) o b) stone-given

  -- ---- the sheet

  module _ (word : s.largest < 2 ^ 64) where
    -- what the words tell behind the call: one stone more where nothing was refused, whatever the memory
    pub sheet-behind : sheet_of (taken_sheet room w x o b face_marks s)
        ≡ where_taken (take_number room w x o b face_marks s) (sheet_of s) (with_stone (sheet_of s) (stone_of (decode room w x) (body_for (decode room w x) o b)))
    unfolding taken_sheet
    sheet-behind = by (take_number room w x o b face_marks s) refl
      where
        t : Stone
        t = stone_of (decode room w x) (body_for (decode room w x) o b)

        by : (n : ℕ) → take_number room w x o b face_marks s ≡ n → sheet_of (unless_refused n (words_of_sheet (with_stone (sheet_of s) t)) s) ≡ where_taken n (sheet_of s) (with_stone (sheet_of s) t)
        by zero z = taken_back s word (sheet-read room w x o b face_marks s z) (room-left z) t (size z)
        by (suc n) z = refl

    -- on readable memory with marks that are long enough it is the definition's
    pub sheet-told : readable room w x ≡ true → reach room FACES face_marks ≡ true → sheet_of (taken_sheet room w x o b face_marks s) ≡ sheet_after (decode room w x) o b (sheet_of s)
    unfolding sheet_after
    sheet-told r k = sheet-behind ∙ ap (λ n. where_taken n (sheet_of s) (with_stone (sheet_of s) (stone_of (decode room w x) (body_for (decode room w x) o b)))) (take-is r k)

    -- "the exact total in two words": where nothing is refused, it grows by six times the body's volume
    pub total-exact : take_number room w x o b face_marks s ≡ 0
        → (sheet_of (taken_sheet room w x o b face_marks s)).total ≡ (sheet_of s).total +ℤ six_volume (decode room w x) (body_for (decode room w x) o b)
    unfolding with_stone
    total-exact z =
        ap (λ (h : Sheet). h.total) sheet-behind
        ∙ ap (λ n. (where_taken n (sheet_of s) (with_stone (sheet_of s) (stone_of (decode room w x) (body_for (decode room w x) o b)))).total) z

    -- "what was taken never makes the sheet unreadable"
    pub words-stay-readable : sheet_readable (sheet_of s) ≡ true → sheet_readable (sheet_of (taken_sheet room w x o b face_marks s)) ≡ true
    unfolding sheet_of
    words-stay-readable e = ap sheet_readable sheet-behind ∙ by (take_number room w x o b face_marks s) refl
      where
        t : Stone
        t = stone_of (decode room w x) (body_for (decode room w x) o b)

        by : (n : ℕ) → take_number room w x o b face_marks s ≡ n → sheet_readable (where_taken n (sheet_of s) (with_stone (sheet_of s) t)) ≡ true
        by zero z = stays-readable (sheet_of s) t e (room-left z) (size z)
        by (suc n) z = e

-- ---- two readable memories in which the body that is asked for is the same stone, or is refused the same, with marks that are long enough in both or in neither

module _ (room w : List ℕ) (x : List Float) (room' w' : List ℕ) (x' : List Float) (o b : ℕ) (face_marks face_marks' : List ℕ)
    (r : readable room w x ≡ true) (r' : readable room' w' x' ≡ true) (k : reach room FACES face_marks ≡ reach room' FACES face_marks')
    (e : body_stone (decode room w x) (body_for (decode room w x) o b) ≡ body_stone (decode room' w' x') (body_for (decode room' w' x') o b)) (s : StoneSheet) where
  -- the number
  pub take_same : take_number room w x o b face_marks s ≡ take_number room' w' x' o b face_marks' s
  take_same = take-told room w x o b face_marks s ∙ (rw (r, r', k, told-number (decode room w x) (decode room' w' x') (body_for (decode room w x) o b) (body_for (decode room' w' x') o b) e)) ∙ sym (take-told room' w' x' o b face_marks' s)

  -- and all five words
  pub sheet-same : taken_sheet room w x o b face_marks s ≡ taken_sheet room' w' x' o b face_marks' s
  unfolding taken_sheet
  sheet-same = by (take_number room w x o b face_marks s) refl ∙ ap (λ n. unless_refused n (new too) s) take_same
    where
      new : Stone → StoneSheet
      new t = words_of_sheet (with_stone (sheet_of s) t)

      it : Stone
      it = stone_of (decode room w x) (body_for (decode room w x) o b)

      too : Stone
      too = stone_of (decode room' w' x') (body_for (decode room' w' x') o b)

      by : (n : ℕ) → take_number room w x o b face_marks s ≡ n → unless_refused n (new it) s ≡ unless_refused n (new too) s
      by zero z = ap new (told-stone (decode room w x) (decode room' w' x') (body_for (decode room w x) o b) (body_for (decode room' w' x') o b) e (stone-given room w x o b face_marks s z))
      by (suc n) z = refl
