-- The same asks in another order: they are as many, and their stones have the same sum; and what stone an ask gives where there is room. Assumes nothing.
use Rattle.std.specs.Prelude.{ℕ, zero, suc, ◌≡◌, refl, ℤ, ◌+ℤ◌, length}
use Rattle.std.proofs.Math.Nat.{ℕ_set}
use Rattle.std.proofs.Common.{sym, ap, ap₂, ◌∙◌}
use Rattle.std.proofs.Math.Logic.{∥∥₁_elim}
use mathlib.Core.List.{List, Perm, Permᴰ}
use Rattle.std.proofs.Math.Option.{Option, none, some}
use Rattle.std.proofs.Math.IntN.{+ℤ_assoc, +ℤ_comm, ℤ_set}
use Rattle.meaning.specs.Model.{Model}
use Rattle.meaning.specs.Offices.{body_for}
use Rattle.meaning_sheets.specs.Sheets.{Stone, stone_of, Ask}
use Rattle.meaning_sheet_laws.specs.Terms.{sum_of}
use Rattle.meaning_sheet_laws.specs.Takes.{own_refusal}

-- ---- lists that are the same but for their order

pub same_length : {A : Type 0} {l k : List A} → Perm l k → length l ≡ length k
same_length {A} p = ∥∥₁_elim p (ℕ_set _ _) each
  where
    each : {l k : List A} → Permᴰ l k → length l ≡ length k
    each Permᴰ.nil = refl
    each (Permᴰ.cons e d) = ap suc (each d)
    each (Permᴰ.swap e f) = refl
    each (Permᴰ.trans d e) = each d ∙ each e

pub same_sum : {l k : List Stone} → Perm l k → sum_of l ≡ sum_of k
unfolding sum_of
same_sum p = ∥∥₁_elim p (ℤ_set _ _) each
  where
    exchanged : (a b c : ℤ) → a +ℤ (b +ℤ c) ≡ b +ℤ (a +ℤ c)
    exchanged a b c = sym (+ℤ_assoc a b c) ∙ ap (λ (n : ℤ). n +ℤ c) (+ℤ_comm a b) ∙ +ℤ_assoc b a c

    each : {l k : List Stone} → Permᴰ l k → sum_of l ≡ sum_of k
    each Permᴰ.nil = refl
    each (Permᴰ.cons e d) = ap₂ (λ (s : Stone) (n : ℤ). s.number +ℤ n) e (each d)
    each (Permᴰ.swap {a = a} {b = b} {l = l} e f) =
        exchanged a.number b.number (sum_of l) ∙ ap₂ (λ (s t : Stone). s.number +ℤ (t.number +ℤ sum_of l)) f e
    each (Permᴰ.trans d e) = each d ∙ each e

-- ---- with room, whether a body is taken does not depend on the sheet

abbrev pub stone_where : ℕ → Stone → Option Stone
stone_where zero s = some s
stone_where (suc n) s = none

unfoldable pub asked_stone : Model → Ask → Option Stone
asked_stone m a = stone_where (own_refusal m a.office a.body) (stone_of m (body_for m a.office a.body))
