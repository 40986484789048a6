-- A row of takes as the row of its stones, each added to the sheet; what a readable sheet is, and what one take is refused for. Assumes nothing.
use Prim.Native.Nat.{ℕ, zero, suc, ◌+◌, ◌*◌, ◌^◌, ◌≤◌, ◌<◌}
use native.Mathlib.Omega.{arith}
use Rattle.std.specs.Prelude.{◌≡◌, true, List, [], ◌∷◌, leb, nat_abs, ◌+ℤ◌, length}
use Rattle.std.proofs.Math.Path.{refl}
use Rattle.std.proofs.Common.{sym, ◌∙◌}
use Rattle.std.proofs.Math.Dec.{ltb}
use Rattle.std.proofs.Math.IntN.{+ℤ_idr, +ℤ_assoc}
use borrow.Author.Tests.{leb-true, le-leb, ltb-true, lt-ltb}
use Rattle.geom_lines_planes.specs.Refuse.{◌unless◌, ◌then◌}
use Rattle.meaning.specs.Model.{Model}
use Rattle.meaning.specs.Offices.{office_refusal, body_for}
use Rattle.meaning_list_laws.specs.Tests.{and_both, then-zero, then-none, unless-zero}
use Rattle.meaning_sheets.specs.Sheets.{Stone, Sheet, with_stone, sheet_readable, stone_refusal, take_refusal, stone_of, where_taken, sheet_after, Ask, after_takes}
use Rattle.meaning_sheet_laws.specs.Terms.{listed_where_taken, taken_stones, sum_of}

-- ---- stones added one after the other

unfoldable pub with_stones : Sheet → List Stone → Sheet
with_stones h [] = h
with_stones h (s ∷ l) = with_stones (with_stone h s) l

pub with-stones : (h : Sheet) (l : List Stone) → (with_stones h l).stones ≡ h.stones + length l
unfolding with_stones with_stone
with-stones h [] = omega arith
with-stones h (s ∷ l) = omega (arith, with-stones (with_stone h s) l)

pub with-total : (h : Sheet) (l : List Stone) → (with_stones h l).total ≡ h.total +ℤ sum_of l
unfolding with_stones with_stone sum_of
with-total h [] = sym (+ℤ_idr h.total)
with-total h (s ∷ l) = with-total (with_stone h s) l ∙ +ℤ_assoc h.total s.number (sum_of l)

pub all-taken : (m : Model) (l : List Ask) (h : Sheet) → after_takes m l h ≡ with_stones h (taken_stones m l h)
unfolding after_takes taken_stones with_stones sheet_after
all-taken m [] h = refl
all-taken m (a ∷ l) h = all-taken m l (sheet_after m a.office a.body h) ∙ by (take_refusal m a.office a.body h) (taken_stones m l (sheet_after m a.office a.body h))
  where
    s : Stone
    s = stone_of m (body_for m a.office a.body)

    by : (n : ℕ) (r : List Stone) → with_stones (where_taken n h (with_stone h s)) r ≡ with_stones h (listed_where_taken n s r)
    by zero r = refl
    by (suc n) r = refl

-- ---- a readable sheet

pub record Readable (h : Sheet) : Type 0 where
  pub few : h.stones ≤ 65536
  pub total-small : nat_abs h.total ≤ 3 * 2 ^ 60 * h.stones

pub readable-means : (h : Sheet) → sheet_readable h ≡ true → Readable h
unfolding sheet_readable
readable-means h r =
    let b : (leb h.stones 65536 ≡ true) × (leb (nat_abs h.total) (3 * 2 ^ 60 * h.stones) ≡ true) = and_both _ _ r in
    record { few = leb-true h.stones 65536 b.0; total-small = leb-true (nat_abs h.total) (3 * 2 ^ 60 * h.stones) b.1 }

pub readable-if : (h : Sheet) → Readable h → sheet_readable h ≡ true
unfolding sheet_readable
readable-if h r = rw (le-leb h.stones 65536 r.few, le-leb (nat_abs h.total) (3 * 2 ^ 60 * h.stones) r.total-small)

-- ---- one take

-- what the body is refused for, whatever the sheet
abbrev pub own_refusal : Model → ℕ → ℕ → ℕ
own_refusal m o b = office_refusal o then stone_refusal m (body_for m o b)

module _ (m : Model) (o b : ℕ) (h : Sheet) where
  -- a stone that is taken is none too large, and there is room for it
  pub taken-means : take_refusal m o b h ≡ 0 → (stone_refusal m (body_for m o b) ≡ 0) × (h.stones < 65536)
  unfolding take_refusal
  taken-means z =
      let behind = (then-zero (office_refusal o) _ (then-zero (9 unless sheet_readable h) _ z).1).1 in
      let both = then-zero (stone_refusal m (body_for m o b)) (8 unless ltb h.stones 65536) behind in
      (both.0, ltb-true h.stones 65536 (unless-zero 7 (ltb h.stones 65536) both.1))

  pub own-refusal : sheet_readable h ≡ true → h.stones < 65536 → take_refusal m o b h ≡ own_refusal m o b
  unfolding take_refusal
  own-refusal r q = rw (r, lt-ltb h.stones 65536 q, then-none (stone_refusal m (body_for m o b)))

  pub one_more : (sheet_after m o b h).stones ≤ suc h.stones
  unfolding sheet_after with_stone
  one_more = by (take_refusal m o b h)
    where
      by : (n : ℕ) → (where_taken n h (with_stone h (stone_of m (body_for m o b)))).stones ≤ suc h.stones
      by zero = omega arith
      by (suc n) = omega arith
