-- A body taken in, told from its stone. Assumes nothing.
use Prim.Native.Nat.{ℕ, zero, suc, ◌*◌, ◌^◌, ◌≤◌, ◌<◌}
use native.Mathlib.Omega.{arith}
use Rattle.std.specs.Prelude.{◌≡◌, Bool, true, false, List, ltb, ℤ, Float}
use Rattle.std.proofs.Math.Path.{refl, sym, ap}
use Rattle.std.proofs.Common.{◌∙◌, subst, ltb-true}
use Rattle.std.proofs.Math.IntN.{sub_ℕ}
use Rattle.geom_lines_planes.specs.Refuse.{◌unless◌, ◌then◌}
use Rattle.meaning.specs.Model.{Model}
use Rattle.meaning.specs.Inquire.{solid_sides}
use Rattle.meaning_list_laws.specs.Tests.{then-zero, then-assoc}
use Rattle.meaning_sheets.specs.Sheets.{sheet_readable, with_stone, stone_refusal, six_volume, stone_of}
use Rattle.meaning_sheet_laws.specs.Sizes.{stone-triangles}
use Rattle.meaning_sheet_laws.specs.Parts.{plus_sum, minus_sum}
use Rattle.meaning_sheet_laws.proofs.Parts.{plus-size, minus-size, sum_is}
use Rattle.memory_layout.specs.Decode.{decode}
use Rattle.memory_layout.specs.Readable.{readable, tag_number}
use Rattle.memory_writes.specs.Put.{unless_refused}
use Rattle.memory_offices.specs.Sight.{by_office, body_asked}
use Rattle.memory_offices.specs.Laws.{office-there, office-above}
use Rattle.memory_offices.proofs.Laws.{unless-above}
use Rattle.walk_answers.specs.Calls.{reach}
use Rattle.inquire_stone.specs.declared.Stone.{Stone}
use Rattle.inquire_stone.specs.Answers.{stone_number, stone_answer}
use Rattle.sheet_words.specs.declared.StoneSheet.{StoneSheet}
use Rattle.sheet_words.specs.Words.{sheet_of, words_of_sheet}
use Rattle.office_sheets.specs.declared.TakenIn.{TakenIn}
use Rattle.office_sheets.specs.Answers.{take_number, taken_sheet}
use Rattle.office_sheets.specs.Told.{told_number, take_with, told_take}

-- ---- from the stone

module _ (s : StoneSheet) (b : ℕ) (t : Stone) (n : ℕ) (e : n ≡ told_number s t) where
  abbrev new : StoneSheet
  new = words_of_sheet (with_stone (sheet_of s) (record { body = b; number = sub_ℕ t.plus t.minus }))

  pub take-refused : (n ≡ 0 → ⊥) → record { refused = n; sheet = s } ≡ told_take s b t
  unfolding told_take
  take-refused z = by n z ∙ ap (λ k. take_with k new s) e
    where
      by : (k : ℕ) → (k ≡ 0 → ⊥) → record { refused = k; sheet = s } ≡ take_with k new s
      by zero q = absurd (q refl)
      by (suc k) q = refl

  pub take-given : (h : StoneSheet) → n ≡ 0 → h ≡ new → record { refused = 0; sheet = h } ≡ told_take s b t
  unfolding told_take
  take-given h z q = let held : record { refused = 0; sheet = h } ≡ take_with 0 new s = ap (λ (k : StoneSheet). take_with 0 k s) q in held ∙ ap (λ k. take_with k new s) (sym z ∙ e)

  pub has_room : n ≡ 0 → s.stones < 65536
  has_room z = told (ltb s.stones 65536) refl (then-zero t.refused (8 unless ltb s.stones 65536) (sym e ∙ z)).1
    where
      told : (c : Bool) → ltb s.stones 65536 ≡ c → (8 unless c) ≡ 0 → s.stones < 65536
      told true q r = ltb-true s.stones 65536 q
      told false q r = absurd (omega arith)

-- ---- the stone of a body

module _ (room w : List ℕ) (x : List Float) (b : ℕ) (face_marks : List ℕ) where
  abbrev m : Model
  m = decode room w x

  -- a stone that is not refused by the call is none that is refused by itself
  passed : stone_number room w x b face_marks ≡ 0 → stone_refusal m b ≡ 0
  unfolding stone_number
  passed e = (then-zero (8 unless reach room 3 face_marks) (stone_refusal m b) (then-zero (9 unless readable room w x) _ e).1).1

  pub sums-held : ((stone_answer room w x b face_marks).plus ≤ 3 * 2 ^ 60) × ((stone_answer room w x b face_marks).minus ≤ 3 * 2 ^ 60)
  unfolding stone_answer
  sums-held = by (stone_number room w x b face_marks) refl
    where
      by : (n : ℕ) → stone_number room w x b face_marks ≡ n → (unless_refused n (plus_sum m (solid_sides m b)) 0 ≤ 3 * 2 ^ 60) × (unless_refused n (minus_sum m (solid_sides m b)) 0 ≤ 3 * 2 ^ 60)
      by zero e = let few = stone-triangles m b (passed e) in (omega (arith, plus-size m (solid_sides m b)), omega (arith, minus-size m (solid_sides m b)))
      by (suc n) e = (omega arith, omega arith)

  -- the number that the sums are
  pub number_is : stone_number room w x b face_marks ≡ 0 → sub_ℕ (stone_answer room w x b face_marks).plus (stone_answer room w x b face_marks).minus ≡ six_volume m b
  unfolding stone_answer
  number_is e = rw e (sym (sum_is m (solid_sides m b)))

-- ---- the call

module _ (room w : List ℕ) (x : List Float) (o b : ℕ) (face_marks : List ℕ) (s : StoneSheet) where
  -- a sheet that cannot be read
  pub unread : sheet_readable (sheet_of s) ≡ false → (9 ≡ take_number room w x o b face_marks s) × (s ≡ taken_sheet room w x o b face_marks s)
  unfolding take_number taken_sheet
  unread e = (rw e, rw e)

  module _ (e : sheet_readable (sheet_of s) ≡ true) where
    abbrev full : ℕ
    full = 8 unless ltb s.stones 65536

    -- an office above 1
    pub above : (k : ℕ) → 1 < o → k ≡ tag_number room w x → (k ≡ take_number room w x o b face_marks s) × (s ≡ taken_sheet room w x o b face_marks s)
    unfolding take_number taken_sheet
    above k h q = (rw e (q ∙ sym (office-above room w x o _ h)), rw e (unless-above room w x o _ _ s h))

    -- an office that there is
    module _ (id : ℕ) (asked : id ≡ body_asked room w x o b) (t : Stone) (stone : t ≡ stone_answer room w x id face_marks) (h : o ≤ 1) where
      refused-is : t.refused ≡ stone_number room w x id face_marks
      unfolding stone_answer
      refused-is = ap (λ (k : Stone). k.refused) stone

      number : told_number s t ≡ take_number room w x o b face_marks s
      unfolding take_number
      number =
          ap (λ k. k then full) refused-is ∙ parts
          ∙ sym (office-there room w x o (rest then full) h)
          ∙ ap (by_office room w x o) (sym parts)
          ∙ ap (λ i. by_office room w x o (stone_number room w x i face_marks then full)) asked
          ∙ (rw e)
        where
          rest : ℕ
          rest = 8 unless reach room 3 face_marks then stone_refusal (decode room w x) id

          parts : (stone_number room w x id face_marks then full) ≡ (9 unless readable room w x then rest then full)
          parts = unfold stone_number in then-assoc (9 unless readable room w x) rest full

      sheet-is : (n : ℕ) → told_number s t ≡ n
          → unless_refused n (words_of_sheet (with_stone (sheet_of s) (record { body = id; number = sub_ℕ t.plus t.minus }))) s ≡ unless_refused n (words_of_sheet (with_stone (sheet_of s) (stone_of (decode room w x) (body_asked room w x o b)))) s
      sheet-is zero z =
          let none : stone_number room w x id face_marks ≡ 0 = sym refused-is ∙ (then-zero t.refused full z).0 in
          let sums : sub_ℕ t.plus t.minus ≡ six_volume (decode room w x) id = ap (λ (k : Stone). sub_ℕ k.plus k.minus) stone ∙ number_is room w x id face_marks none in
          ap (λ (z : ℤ). words_of_sheet (with_stone (sheet_of s) (record { body = id; number = z }))) sums ∙ ap (λ i. words_of_sheet (with_stone (sheet_of s) (stone_of (decode room w x) i))) asked
      sheet-is (suc n) z = refl

      pub there : (r : TakenIn) → r ≡ told_take s id t → (r.refused ≡ take_number room w x o b face_marks s) × (r.sheet ≡ taken_sheet room w x o b face_marks s)
      unfolding told_take taken_sheet
      there r q = (ap (λ (k : TakenIn). k.refused) q ∙ number, ap (λ (k : TakenIn). k.sheet) q ∙ sheet-is (told_number s t) refl ∙ ap (λ n. unless_refused n (words_of_sheet (with_stone (sheet_of s) (stone_of (decode room w x) (body_asked room w x o b)))) s) number)
