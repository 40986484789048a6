-- What any row of takes does to the stone sheet (W-201, whose words are quoted), for every model and every list of asks, each of an office, refused or not. These rest on the theorems of the other files. Assumes nothing.
use Rattle.std.specs.Prelude.{ℕ, ◌+◌, ◌≤◌, ◌↔◌, ◌≡◌, refl, true, ◌+ℤ◌, length}
use Rattle.std.proofs.Common.{arith, sym, ap, ◌∙◌}
use mathlib.Core.List.{List, [], ◌∷◌, Perm}
use Rattle.std.proofs.Math.Option.{none, some}
use Rattle.std.proofs.Math.IntN.{+ℤ_idl}
use Rattle.meaning.specs.Model.{Model}
use Rattle.meaning_sheets.specs.Sheets.{Stone, Sheet, new_sheet, sheet_readable, sheet_after, Ask, after_takes}
use Rattle.meaning_sheet_laws.specs.Terms.{taken_stones, sum_of, FirstGreatest}
use Rattle.meaning_sheet_laws.proofs.Takes as Takes
use Rattle.meaning_sheet_laws.specs.Takes.{with-stones, with-total, all-taken}
use Rattle.meaning_sheet_laws.specs.Orders.{same_length, same_sum}
use Rattle.meaning_sheet_laws.proofs.SameStones.{same-stones}
use Rattle.meaning_sheet_laws.specs.Largest.{Kept, kept-none}
use Rattle.meaning_sheet_laws.proofs.Largest.{kept, kept-some}

-- 1. What was taken never makes a sheet unreadable
pub stays-readable : (m : Model) (o b : ℕ) (h : Sheet) → sheet_readable h ≡ true → sheet_readable (sheet_after m o b h) ≡ true
stays-readable = Takes.stays-readable

pub all-stays-readable : (m : Model) (l : List Ask) (h : Sheet) → sheet_readable h ≡ true → sheet_readable (after_takes m l h) ≡ true
unfolding after_takes
all-stays-readable m [] h r = r
all-stays-readable m (a ∷ l) h r = all-stays-readable m l (sheet_after m a.office a.body h) (stays-readable m a.office a.body h r)

-- 4. "One running sheet .. keeps the number of stones, the exact total": each stone that was taken counts once
pub counts : (m : Model) (l : List Ask) (h : Sheet) → (after_takes m l h).stones ≡ h.stones + length (taken_stones m l h)
counts m l h = rw (all-taken m l h) (with-stones h (taken_stones m l h))

pub adds-up : (m : Model) (l : List Ask) (h : Sheet) → (after_takes m l h).total ≡ h.total +ℤ sum_of (taken_stones m l h)
adds-up m l h = rw (all-taken m l h) (with-total h (taken_stones m l h))

-- from the new sheet they are the number and the sum of the stones taken
pub counts-from-new : (m : Model) (l : List Ask) → (after_takes m l new_sheet).stones ≡ length (taken_stones m l new_sheet)
counts-from-new m l = omega (arith, counts m l new_sheet)

pub adds-up-from-new : (m : Model) (l : List Ask) → (after_takes m l new_sheet).total ≡ sum_of (taken_stones m l new_sheet)
adds-up-from-new m l = adds-up m l new_sheet ∙ +ℤ_idl (sum_of (taken_stones m l new_sheet))

-- 5. "Where the sheet has room for all of them, taking the bodies in another order gives the same total" and the same number of stones: the same stones are taken, but for their order
module _ (m : Model) (l k : List Ask) (h : Sheet) (p : Perm l k) (r : sheet_readable h ≡ true) (room : h.stones + length l ≤ 65536) where
  pub another-order-same-stones : Perm (taken_stones m l h) (taken_stones m k h)
  another-order-same-stones = same-stones m l k h p r room

  pub another-order-same-total : (after_takes m l h).total ≡ (after_takes m k h).total
  another-order-same-total = adds-up m l h ∙ ap (λ n. h.total +ℤ n) (same_sum another-order-same-stones) ∙ sym (adds-up m k h)

  pub another-order-same-number : (after_takes m l h).stones ≡ (after_takes m k h).stones
  another-order-same-number = counts m l h ∙ ap (λ n. h.stones + n) (same_length another-order-same-stones) ∙ sym (counts m k h)

-- 6. "the largest stone so far (signed; none at first)", "among equals the largest is the first met": from the new sheet it is none exactly if no body was taken, else the first greatest of those taken
module _ (m : Model) (l : List Ask) where
  all-kept : Kept (after_takes m l new_sheet).largest (taken_stones m l new_sheet)
  unfolding Kept
  all-kept = rw (all-taken m l new_sheet) (kept new_sheet [] (taken_stones m l new_sheet) refl)

  pub largest-none : ((after_takes m l new_sheet).largest ≡ none) ↔ (taken_stones m l new_sheet ≡ [])
  largest-none = kept-none (after_takes m l new_sheet).largest (taken_stones m l new_sheet) all-kept

  pub largest-is : (g : Stone) → ((after_takes m l new_sheet).largest ≡ some g) ↔ FirstGreatest g (taken_stones m l new_sheet)
  largest-is g = kept-some (after_takes m l new_sheet).largest (taken_stones m l new_sheet) g all-kept
