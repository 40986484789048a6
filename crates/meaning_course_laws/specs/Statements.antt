-- What holds of every course (W-213, whose words are quoted), for every model, office and table of courses. Assumes nothing.
use Rattle.std.specs.Prelude.{ℕ, suc, ◌+◌, ◌*◌, ◌^◌, ◌≤◌, ◌<◌, ◌≡◌, true, false, ℤ, pos, nat_abs, ◌+ℤ◌, replicate}
use Rattle.std.proofs.Common.{arith, sym, ◌∙◌, length-append}
use Rattle.std.proofs.Math.Path.{refl, ap, ap₂}
use mathlib.Core.List.{List, [], ◌∷◌, ◌++◌, map}
use Rattle.std.proofs.Math.IntN.{+ℤ_idr, +ℤ_assoc, +ℤ_comm}
use Rattle.std.proofs.Math.ListN.{length}
use Rattle.geom_lines_planes.specs.Refuse.{◌then◌}
use Rattle.meaning.specs.Model.{Model}
use Rattle.meaning.specs.Offices.{office_refusal, body_for}
use Rattle.meaning.specs.Refuse.{◌if◌, first_of}
use Rattle.meaning_list_laws.specs.Tests.{then-zero}
use Rattle.meaning_sheets.specs.Sheets.{Stone, Sheet, sheet_readable, stone_refusal, take_refusal, stone_of, sheet_after, Ask}
use Rattle.meaning_sheet_laws.specs.Sizes.{size-sum}
use Rattle.meaning_sheet_laws.proofs.Sizes.{stone-taken}
use Rattle.meaning_sheet_laws.specs.Terms.{listed_where_taken, taken_stones, sum_of}
use Rattle.meaning_sheet_laws.specs.Takes.{own-refusal, one_more}
use Rattle.meaning_sheet_laws.proofs.Takes.{stays-readable}
use Rattle.meaning_courses.specs.Courses.{Entry, of_course, Courses, entries_of, bodies_in, stones_of, missing, too_deep, LEVELS, stones_refusal, course_refusal, total_of, course_stones}
use Rattle.meaning_course_laws.specs.Lists.{bodies-append, stones-few, same_entries, total-append}

-- 1. "an empty course has no stones and total 0", at every level
pub empty-course : (m : Model) (o : ℕ) (t : Courses) (n c : ℕ) → entries_of t c ≡ [] → (stones_of t (suc n) c ≡ []) × (total_of m o (stones_of t (suc n) c) ≡ pos 0)
unfolding stones_of bodies_in total_of
empty-course m o t n c e = (rw e, rw e)

-- 2. "a course used twice counts twice": each time that it is listed, wherever, adds its stones to those of the other entries
module _ (m : Model) (o : ℕ) (t : Courses) (n c d : ℕ) (k l : List Entry) (e : entries_of t c ≡ k ++ (of_course d ∷ l)) where
  -- the stones of a course on the next level
  abbrev next : ℕ → List ℕ
  next i = stones_of t n i

  listed : stones_of t (suc n) c ≡ bodies_in next k ++ (next d ++ bodies_in next l)
  unfolding stones_of bodies_in
  listed = ap (bodies_in next) e ∙ bodies-append next k (of_course d ∷ l)

  pub each-listing-stones : length (stones_of t (suc n) c) ≡ length (next d) + length (bodies_in next (k ++ l))
  each-listing-stones = ap length listed ∙ simp (length-append, bodies-append) (omega arith)

  pub each-listing-total : total_of m o (stones_of t (suc n) c) ≡ total_of m o (next d) +ℤ total_of m o (bodies_in next (k ++ l))
  each-listing-total =
      ap (total_of m o) listed
      ∙ total-append m o (bodies_in next k) (next d ++ bodies_in next l)
      ∙ ap (λ (z : ℤ). total_of m o (bodies_in next k) +ℤ z) (total-append m o (next d) (bodies_in next l))
      ∙ exchanged (total_of m o (bodies_in next k)) (total_of m o (next d)) (total_of m o (bodies_in next l))
      ∙ ap (λ (z : ℤ). total_of m o (next d) +ℤ z) (sym (total-append m o (bodies_in next k) (bodies_in next l)) ∙ ap (total_of m o) (sym (bodies-append next k l)))
    where
      exchanged : (a b z : ℤ) → a +ℤ (b +ℤ z) ≡ b +ℤ (a +ℤ z)
      exchanged a b z = sym (+ℤ_assoc a b z) ∙ ap (λ (y : ℤ). y +ℤ z) (+ℤ_comm a b) ∙ +ℤ_assoc b a z

-- so a course of the same course twice has its stones twice
module _ (m : Model) (o : ℕ) (t : Courses) (n c d : ℕ) (e : entries_of t c ≡ of_course d ∷ of_course d ∷ []) where
  twice : stones_of t (suc n) c ≡ stones_of t n d ++ (stones_of t n d ++ [])
  unfolding stones_of bodies_in
  twice = rw e

  pub used-twice-stones : length (stones_of t (suc n) c) ≡ length (stones_of t n d) + length (stones_of t n d)
  used-twice-stones = ap length twice ∙ simp (length-append) (omega arith)

  pub used-twice-total : total_of m o (stones_of t (suc n) c) ≡ total_of m o (stones_of t n d) +ℤ total_of m o (stones_of t n d)
  used-twice-total =
      let none : total_of m o (stones_of t n d ++ []) ≡ total_of m o (stones_of t n d) = total-append m o (stones_of t n d) [] ∙ (unfold total_of in +ℤ_idr (total_of m o (stones_of t n d))) in
      ap (total_of m o) twice ∙ total-append m o (stones_of t n d) (stones_of t n d ++ []) ∙ ap (λ (z : ℤ). total_of m o (stones_of t n d) +ℤ z) none

-- 3. Courses of up to 16 entries have up to 65,536 stones, which is as many as the sheet takes, and no fewer: a course of 16 times a course of 16 times a course of 16 times a course of 16 bodies has them
pub few-stones : (t : Courses) → ((c : ℕ) → length (entries_of t c) ≤ 16) → (c : ℕ) → course_stones t c ≤ 65536
few-stones t h c = stones-few t h LEVELS c

pub as_many : (t : Courses) (a b c d : ℕ) → entries_of t a ≡ replicate 16 (of_course b) → entries_of t b ≡ replicate 16 (of_course c) → entries_of t c ≡ replicate 16 (of_course d) → length (stones_of t 1 d) ≡ 16
    → course_stones t a ≡ 65536
as_many t a b c d ea eb ec ed =
    level 3 a b ea ∙ ap (λ k. 16 * k) (level 2 b c eb ∙ ap (λ k. 16 * k) (level 1 c d ec ∙ ap (λ k. 16 * k) ed))
  where
    level : (n x y : ℕ) → entries_of t x ≡ replicate 16 (of_course y) → length (stones_of t (suc n) x) ≡ 16 * length (stones_of t n y)
    level n x y e =
        let listed : length (stones_of t (suc n) x) ≡ length (bodies_in (λ d. stones_of t n d) (replicate 16 (of_course y))) = unfold stones_of in ap (λ (l : List Entry). length (bodies_in (λ d. stones_of t n d) l)) e in
        listed ∙ same_entries (λ d. stones_of t n d) y 16

-- 4. "2 .., then 1 ..": a course or a body that is missing within the four levels gives 2, whatever lists a course too deep, and wherever
pub missing-first : (m : Model) (o : ℕ) (t : Courses) (c : ℕ) → office_refusal o ≡ 0 → missing m o t LEVELS c ≡ true → course_refusal m o t c ≡ 2
unfolding course_refusal
missing-first m o t c q e = rw (q, e)

pub then-too-deep : (m : Model) (o : ℕ) (t : Courses) (c : ℕ) → office_refusal o ≡ 0 → missing m o t LEVELS c ≡ false → too_deep t LEVELS c ≡ true → course_refusal m o t c ≡ 1
unfolding course_refusal
then-too-deep m o t c q e f = rw (q, e, f)

-- ---- 5. The total is that of a sheet which takes the stones in one by one, and so are the refusals

unfoldable pub asks : ℕ → List ℕ → List Ask
asks o l = map (λ b. record { office = o; body = b }) l

-- the first refusal of a row of takes, each asked of the sheet that the one before it left
unfoldable pub takes_refusal : Model → ℕ → List ℕ → Sheet → ℕ
takes_refusal m o [] h = 0
takes_refusal m o (b ∷ l) h = let rest = takes_refusal m o l (sheet_after m o b h) in take_refusal m o b h then rest

module _ (m : Model) (o : ℕ) (q : office_refusal o ≡ 0) where
  own : (b : ℕ) (h : Sheet) → sheet_readable h ≡ true → h.stones < 65536 → take_refusal m o b h ≡ stone_refusal m (body_for m o b)
  own b h r s = own-refusal m o b h r s ∙ ap (λ n. n then stone_refusal m (body_for m o b)) q

  -- "then W-201's own refusals, the first stone in order deciding": they are those of the sheet, which is never full
  pub takes-refused : (l : List ℕ) (h : Sheet) → sheet_readable h ≡ true → h.stones + length l ≤ 65536 → takes_refusal m o l h ≡ stones_refusal m o l
  unfolding takes_refusal first_of
  takes-refused [] h r s = refl
  takes-refused (b ∷ l) h r s =
      ap₂ (λ (n k : ℕ). n then k) (own b h r (omega arith))
      (takes-refused l (sheet_after m o b h) (stays-readable m o b h r) (omega (arith, one_more m o b h)))

  pub all-taken : (l : List ℕ) (h : Sheet) → sheet_readable h ≡ true → h.stones + length l ≤ 65536 → stones_refusal m o l ≡ 0 → taken_stones m (asks o l) h ≡ map (λ b. stone_of m (body_for m o b)) l
  unfolding asks taken_stones first_of
  all-taken [] h r s z = refl
  all-taken (b ∷ l) h r s z =
      let parts = then-zero (stone_refusal m (body_for m o b)) (stones_refusal m o l) z in
      let none : take_refusal m o b h ≡ 0 = own b h r (omega arith) ∙ parts.0 in
      ap (λ n. listed_where_taken n (stone_of m (body_for m o b)) (taken_stones m (asks o l) (sheet_after m o b h))) none
      ∙ ap (λ (k : List Stone). stone_of m (body_for m o b) ∷ k) (all-taken l (sheet_after m o b h) (stays-readable m o b h r) (omega (arith, one_more m o b h)) parts.1)

  pub sums : (l : List ℕ) → sum_of (map (λ b. stone_of m (body_for m o b)) l) ≡ total_of m o l
  unfolding sum_of total_of
  sums [] = refl
  sums (b ∷ l) = ap (λ (z : ℤ). (stone_of m (body_for m o b)).number +ℤ z) (sums l)

  pub counted : (l : List ℕ) → length (map (λ b. stone_of m (body_for m o b)) l) ≡ length l
  counted [] = refl
  counted (b ∷ l) = ap suc (counted l)

-- the new sheet, handed from stone to stone
module _ (m : Model) (o : ℕ) (t : Courses) (c : ℕ) (h : (d : ℕ) → length (entries_of t d) ≤ 16) (z : course_refusal m o t c ≡ 0) where
  pub office-ok : office_refusal o ≡ 0
  unfolding course_refusal
  office-ok = (then-zero (office_refusal o) _ z).0

  pub none-refused : stones_refusal m o (stones_of t LEVELS c) ≡ 0
  unfolding course_refusal
  none-refused = (then-zero (1 if too_deep t LEVELS c) _ (then-zero (2 if missing m o t LEVELS c) _ (then-zero (office_refusal o) _ z).1).1).1

-- 6. No total outgrows its two words: at most 3·2^60 for each stone, so 3·2^76
pub total-held : (m : Model) (o : ℕ) (l : List ℕ) → stones_refusal m o l ≡ 0 → nat_abs (total_of m o l) ≤ 3 * 2 ^ 60 * length l
unfolding total_of first_of
total-held m o [] z = omega arith
total-held m o (b ∷ l) z =
    let parts = then-zero (stone_refusal m (body_for m o b)) (stones_refusal m o l) z in
    omega (arith, total-held m o l parts.1, size-sum (stone_of m (body_for m o b)).number (total_of m o l), stone-taken m (body_for m o b) parts.0)
