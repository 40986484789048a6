-- The sum of a course's stones is their number and their exact total. Assumes nothing.
use Prim.Native.Nat.{ℕ, zero, suc, ◌+◌, ◌-◌, ◌*◌, ◌^◌, ◌≤◌, ◌<◌}
use Rattle.std.proofs.Common.{div-add-mod', lt_of_lt_of_le, ◌∙◌, true≢false, lit≤}
use native.Mathlib.Omega.{arith}
use Rattle.std.specs.Prelude.{◌≡◌, Bool, true, false, not, cond, ◌&&◌, ltb, Float, pos, negsuc, replicate}
use Rattle.std.proofs.Math.Path.{refl, sym, ap, ap₂}
use mathlib.Core.List.{List, [], ◌∷◌}
use Rattle.std.proofs.Math.IntN.{ℤ, nat_abs, sub_ℕ, ◌+ℤ◌, +ℤ_idr, +ℤ_idl, +ℤ_assoc}
use Rattle.std.proofs.Math.ListN.{length}
use Rattle.std.specs.Int.Signed.{mag}
use borrow.Author.Tests.{lt-leb, lt-ltb, ltb-true}
use Rattle.geom_lines_planes.specs.Refuse.{◌then◌}
use Rattle.meaning.specs.Lists.{all}
use Rattle.meaning.specs.Model.{Model, has}
use Rattle.meaning.specs.Offices.{foreign, body_for}
use Rattle.meaning.specs.Refuse.{first_of}
use Rattle.meaning_list_laws.specs.Tests.{and_both, or-none, then-none, then-zero, then-assoc}
use Rattle.meaning_list_laws.specs.Lists.{all_none, all_cons, all_append}
use Rattle.meaning_sheets.specs.Sheets.{six_volume, stone_refusal}
use Rattle.meaning_sheet_laws.specs.Sizes.{size-sum}
use Rattle.meaning_sheet_laws.proofs.Sizes.{stone-taken}
use Rattle.meaning_courses.specs.Courses.{Entry, of_body, of_course, Courses, entries_of, bodies_in, stones_of, some_entry, there, missing, stones_refusal, total_of}
use Rattle.memory_layout.specs.Layout.{word}
use Rattle.memory_layout.specs.Decode.{decode}
use Rattle.memory_layout.specs.Readable.{readable}
use Rattle.inquire_stone.specs.Answers.{stone_number, stone_answer}
use Rattle.office_sheets.specs.Laws.{number_is}
use Rattle.sheet_words.specs.Words.{as_signed, as_word}
use Rattle.sheet_words.specs.Totals.{words_of_total}
use Rattle.sheet_words.specs.Complement.{number-back}
use Rattle.walk_answers.specs.Calls.{reach}
use Rattle.course_table.specs.Table.{courses_in}
use Rattle.course_stones.specs.declared.CourseSum.{CourseSum}
use Rattle.course_stones.specs.Sums.{total_in, sum_with, with_stone, with_body, with_bodies, new_sum, listed_in, noted, stone_for, weighed_numbers, weighed_plus, weighed_minus}
use Rattle.course_stones.specs.Weighing.{noted-at, stones-listed}

-- ---- no stone of a course is missing where none is missing within its levels

entries-there : (m : Model) (o : ℕ) (f : ℕ → List ℕ) (p : ℕ → Bool) → ((d : ℕ) → p d ≡ false → all (there m o) (f d) ≡ true) → (l : List Entry) → some_entry (λ b. not (there m o b)) p l ≡ false → all (there m o) (bodies_in f l) ≡ true
unfolding bodies_in some_entry all
entries-there m o f p h [] e = refl
entries-there m o f p h (of_body b ∷ l) e =
    let parts = or-none (not (there m o b)) (some_entry (λ b. not (there m o b)) p l) e in
    rw (back (there m o b) parts.0) (entries-there m o f p h l parts.1)
  where
    back : (k : Bool) → not k ≡ false → k ≡ true
    back true q = refl
    back false q = absurd (true≢false q)
entries-there m o f p h (of_course d ∷ l) e =
    let parts = or-none (p d) (some_entry (λ b. not (there m o b)) p l) e in
    all_append (there m o) (f d) (bodies_in f l) (h d parts.0) (entries-there m o f p h l parts.1)

stones-there : (m : Model) (o : ℕ) (t : Courses) (n c : ℕ) → missing m o t n c ≡ false → all (there m o) (stones_of t n c) ≡ true
unfolding missing stones_of all
stones-there m o t zero c e = refl
stones-there m o t (suc n) c e =
    entries-there m o (λ d. stones_of t n d) (λ d. missing m o t n d) (λ d q. stones-there m o t n d q) (entries_of t c) (or-none (not (has t c)) (some_entry (λ b. not (there m o b)) (λ d. missing m o t n d) (entries_of t c)) e).1

-- and every stone is listed
pub stones-met : (m : Model) (o : ℕ) (k : List ℕ) (n c : ℕ) → missing m o (courses_in k) n c ≡ false → all (λ b. there m o b && listed_in k b) (stones_of (courses_in k) n c) ≡ true
stones-met m o k n c e = both (stones_of (courses_in k) n c) (stones-there m o (courses_in k) n c e) (stones-listed k n c)
  where
    both : (l : List ℕ) → all (there m o) l ≡ true → all (listed_in k) l ≡ true → all (λ b. there m o b && listed_in k b) l ≡ true
    both [] f g = all_none (λ b. there m o b && listed_in k b)
    both (b ∷ l) f g =
        let p = and_both (there m o b) (all (there m o) l) (sym (all_cons (there m o) b l) ∙ f) in
        let q = and_both (listed_in k b) (all (listed_in k) l) (sym (all_cons (listed_in k) b l) ∙ g) in
        all_cons (λ b. there m o b && listed_in k b) b l ∙ ap₂ ◌&&◌ (ap₂ ◌&&◌ p.0 q.0) (both l p.1 q.1)

-- a body that is there for the office is one of the table, by its own id
pub body-used : (m : Model) (o b : ℕ) → there m o b ≡ true → b < m.bodies.used
unfolding body_for
body-used m o b e = by (foreign m o b) e
  where
    by : (k : Bool) → ltb (cond k m.bodies.used b) m.bodies.used ≡ true → b < m.bodies.used
    by true q = let h = ltb-true m.bodies.used m.bodies.used q in absurd (omega arith)
    by false q = ltb-true b m.bodies.used q

-- ---- a total in two words

total-small : (z : ℤ) (n : ℕ) → n ≤ 65536 → nat_abs z ≤ 3 * 2 ^ 60 * n → mag z < 2 ^ 127
total-small z n few h = lt_of_lt_of_le (go z h) (lit≤ tt)
  where
    go : (z : ℤ) → nat_abs z ≤ 3 * 2 ^ 60 * n → mag z < 2 ^ 78
    go (pos k) q = omega arith
    go (negsuc k) q = omega arith

-- a sum of n stones with a total
abbrev pub exactly : ℕ → ℤ → CourseSum
exactly n z = record { refused = 0; stones = n; low = (words_of_total z).low; high = (words_of_total z).high }

total-back : (n : ℕ) (z : ℤ) → n ≤ 65536 → nat_abs z ≤ 3 * 2 ^ 60 * n → total_in (exactly n z) ≡ z
unfolding words_of_total
total-back n z few h = ap (as_signed (2 ^ 127)) (div-add-mod' (as_word (2 ^ 127) z) (2 ^ 64)) ∙ number-back (2 ^ 127) z (total-small z n few h)

-- ---- the stones one after the other

module _ (room w : List ℕ) (x : List Float) (o : ℕ) (k marks : List ℕ) (r : readable room w x ≡ true) (reached : reach room 3 marks ≡ true) (few : word w 0 ≤ 64) where
  abbrev m : Model
  m = decode room w x

  abbrev R : List ℕ
  R = weighed_numbers room w x o marks k (word w 0) (replicate 64 0)

  abbrev P : List ℕ
  P = weighed_plus room w x o marks k (word w 0) (replicate 64 0)

  abbrev M : List ℕ
  M = weighed_minus room w x o marks k (word w 0) (replicate 64 0)

  -- W-201's refusal of a body
  abbrev refusal : ℕ → ℕ
  refusal b = stone_refusal m (body_for m o b)

  own-number : (b : ℕ) → stone_number room w x (body_for m o b) marks ≡ refusal b
  unfolding stone_number
  own-number b = rw (r, reached)

  used : (b : ℕ) → there m o b ≡ true → b < word w 0
  unfolding decode
  used b e = body-used m o b e

  -- a stone: a body that is there, and that a course lists
  abbrev met : ℕ → Bool
  met b = there m o b && listed_in k b

  is-there : (b : ℕ) → met b ≡ true → there m o b ≡ true
  is-there b e = (and_both (there m o b) (listed_in k b) e).0

  at : (f : ℕ → ℕ) (b : ℕ) → met b ≡ true → word (noted (listed_in k) f (word w 0) (replicate 64 0)) b ≡ f b
  at f b e = noted-at (listed_in k) f (word w 0) (replicate 64 0) b (and_both (there m o b) (listed_in k b) e).1 (used b (is-there b e)) few

  number_at : (b : ℕ) → met b ≡ true → word R b ≡ refusal b
  unfolding stone_answer
  number_at b e = at (λ k. (stone_for room w x o marks k).refused) b e ∙ own-number b

  volume-at : (b : ℕ) → met b ≡ true → refusal b ≡ 0 → sub_ℕ (word P b) (word M b) ≡ six_volume m (body_for m o b)
  volume-at b e z =
      ap₂ sub_ℕ (at (λ k. (stone_for room w x o marks k).plus) b e) (at (λ k. (stone_for room w x o marks k).minus) b e)
      ∙ number_is room w x (body_for m o b) marks (own-number b ∙ z)

  -- a body that is there
  one : (s : CourseSum) (b : ℕ) → met b ≡ true → s.stones < 65536 → with_body R P M s b ≡ sum_with (refusal b) s (word P b) (word M b)
  unfolding with_body with_stone
  one s b e h =
      let g = used b (is-there b e) in
      rw (lt-leb 64 b (omega arith), lt-ltb s.stones 65536 h, number_at b e, then-none (refusal b))

  -- the first stone that is refused decides
  pub first-decides : (l : List ℕ) (s : CourseSum) → all met l ≡ true → s.stones + length l ≤ 65536 → (with_bodies R P M s l).refused ≡ (s.refused then stones_refusal m o l)
  unfolding with_bodies first_of all
  first-decides [] s e h = sym (then-none s.refused)
  first-decides (b ∷ l) s e h =
      let parts = and_both (met b) (all met l) e in
      let step = one s b parts.0 (omega arith) in
      ap (λ (k : CourseSum). (with_bodies R P M k l).refused) step
      ∙ first-decides l (sum_with (refusal b) s (word P b) (word M b)) parts.1 (room-left (refusal b))
      ∙ ap (λ k. k then stones_refusal m o l) (kept (refusal b))
      ∙ then-assoc s.refused (refusal b) (stones_refusal m o l)
    where
      kept : (n : ℕ) → (sum_with n s (word P b) (word M b)).refused ≡ (s.refused then n)
      kept zero = sym (then-none s.refused)
      kept (suc n) = refl

      room-left : (n : ℕ) → (sum_with n s (word P b) (word M b)).stones + length l ≤ 65536
      room-left zero = omega arith
      room-left (suc n) = omega arith

  -- where none is refused, all are added
  pub all-added : (l : List ℕ) (n : ℕ) (z : ℤ) → all met l ≡ true → n + length l ≤ 65536 → nat_abs z ≤ 3 * 2 ^ 60 * n → stones_refusal m o l ≡ 0
      → with_bodies R P M (exactly n z) l ≡ exactly (n + length l) (z +ℤ total_of m o l)
  unfolding with_bodies first_of all total_of
  all-added [] n z e h g q = ap₂ exactly nothing (sym (+ℤ_idr z))
    where
      nothing : n ≡ n + 0
      nothing = omega arith
  all-added (b ∷ l) n z e h g q =
      let parts = and_both (met b) (all met l) e in
      let zeros = then-zero (refusal b) (stones_refusal m o l) q in
      let volume : ℤ = six_volume m (body_for m o b) in
      let small : nat_abs (z +ℤ volume) ≤ 3 * 2 ^ 60 * (n + 1) = omega (arith, size-sum z volume, stone-taken m (body_for m o b) zeros.0) in
      let total : total_in (exactly n z) +ℤ sub_ℕ (word P b) (word M b) ≡ z +ℤ volume = ap₂ ◌+ℤ◌ (total-back n z (omega arith) g) (volume-at b parts.0 zeros.0) in
      let added : with_body R P M (exactly n z) b ≡ exactly (n + 1) (z +ℤ volume) =
      one (exactly n z) b parts.0 (omega arith) ∙ ap (λ i. sum_with i (exactly n z) (word P b) (word M b)) zeros.0 ∙ ap (exactly (n + 1)) total in
      ap (λ (k : CourseSum). with_bodies R P M k l) added
      ∙ all-added l (n + 1) (z +ℤ volume) parts.1 (omega arith) small zeros.1
      ∙ ap₂ exactly further (+ℤ_assoc z volume (total_of m o l))
    where
      further : n + 1 + length l ≡ n + suc (length l)
      further = omega arith

  pub added-up : (l : List ℕ) → all met l ≡ true → length l ≤ 65536 → stones_refusal m o l ≡ 0 → with_bodies R P M new_sum l ≡ exactly (length l) (total_of m o l)
  unfolding words_of_total as_word
  added-up l e h q = all-added l 0 (pos 0) e (omega arith) (omega arith) q ∙ ap₂ exactly none (+ℤ_idl (total_of m o l))
    where
      none : 0 + length l ≡ length l
      none = omega arith
