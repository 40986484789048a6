-- Laws on lists of faults, which have nothing to do with a walk.
--     set_past         `set` past the end changes nothing. So `keep` can say one list for both of its arms
--     length-written   a list that is written to is as long as it was
--     written-first    of a list of which k entries are written, each of the first k is the one that the numbers tell
--     written_after    and each after them is as it was
-- Assumes nothing.
use mathlib.Core.Path.{◌≡◌, refl, sym, ap, subst, ◌∙◌}
use mathlib.Core.Logic.{◌⊎◌, inl, inr}
use Prim.Native.Nat.{ℕ, zero, suc, ◌≤◌, ◌<◌}
use native.Mathlib.Nat.{not-suc-le-zero, le_of_suc-le-suc, eq-or-lt_of_le}
use native.Mathlib.Omega.{arith}
use mathlib.Core.List.{List, [], ◌∷◌}
use lib.ListN.{length, set, length-set}
use lib.Seq.{get_or-set_same, get_or-set_other}
use Rattle.check_fault_list.specs.declared.Fault.{Fault}
use Rattle.check_fault_list.specs.List.{no_fault, at, told, written}

pub set_past : {X : Type 0} (l : List X) (i : ℕ) (x : X) → length l ≤ i → set l i x ≡ l
set_past [] i x h = refl
set_past (y ∷ l) zero x h = absurd (not-suc-le-zero h)
set_past (y ∷ l) (suc i) x h = ap (λ (t : List _). y ∷ t) (set_past l i x (le_of_suc-le-suc h))

pub length-written : (l : List Fault) (ns : List ℕ) (k : ℕ) → length (written l ns k) ≡ length l
length-written l ns zero = refl
length-written l ns (suc k) = length-set (written l ns k) k (told ns k) ∙ length-written l ns k

pub written_after : (l : List Fault) (ns : List ℕ) (k j : ℕ) → k ≤ j → at (written l ns k) j ≡ at l j
written_after l ns zero j h = refl
written_after l ns (suc k) j h = get_or-set_other (written l ns k) k j (told ns k) no_fault (λ e. omega (arith, h, e)) ∙ written_after l ns k j (omega (arith, h))

-- the last entry or one before it
last-or-before : (j k : ℕ) → j < suc k → (j ≡ k) ⊎ (j < k)
last-or-before j k h = eq-or-lt_of_le (le_of_suc-le-suc h)

pub written-first : (l : List Fault) (ns : List ℕ) (k j : ℕ) → k ≤ length l → j < k → at (written l ns k) j ≡ told ns j
written-first l ns zero j fit h = absurd (not-suc-le-zero h)
written-first l ns (suc k) j fit h = elim (last-or-before j k h) [
  | inl e ↦ ap (λ (i : ℕ). at (written l ns (suc k)) i) e ∙ get_or-set_same (written l ns k) k (told ns k) no_fault (subst (λ (m : ℕ). k < m) (sym (length-written l ns k)) fit) ∙ ap (λ (i : ℕ). told ns i) (sym e)
  | inr b ↦ get_or-set_other (written l ns k) k j (told ns k) no_fault (λ e. omega (arith, b, e)) ∙ written-first l ns k j (omega (arith, fit)) b
]
