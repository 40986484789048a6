-- The theorems of specs/Refusals.antt that rest on `rows-are-tests`, `rows-where` and `rows-only`: where a split is refused. Assumes nothing.
use Prim.Native.Nat.{ℕ, zero, suc}
use native.Mathlib.Omega.{arith}
use Rattle.std.specs.Prelude.{◌≡◌, get_or, Float}
use Rattle.std.proofs.Math.Path.{ap}
use Rattle.std.proofs.Common.{sym, ◌∙◌}
use mathlib.Core.List.{[], map}
use Rattle.meaning.specs.Model.{Model, Limits}
use Rattle.meaning.specs.Refuse.{refused, answered, first_refusal}
use Rattle.meaning.specs.Split.{split_tests, split_refusal, EdgeSplit, split_line_edge}
use Rattle.meaning_split_laws.specs.Rows.{split_rows, Passes, RefusedAt}
use Rattle.meaning_split_laws.specs.Refusals.{first, first-passed, rows-where, rows-only, rows_pass, pass-only, numbered-rows, rows-are-tests, answered-refused}

module _ (x : Limits) (m : Model) (e : ℕ) (t : Float) where
  rows-number : first_refusal (map first (split_rows x m e t)) ≡ split_refusal x m e t
  unfolding split_refusal
  rows-number = ap first_refusal (rows-are-tests x m e t) ∙ first-passed (split_tests x m e t)

  pub refused-where : (k n : ℕ) → RefusedAt (split_rows x m e t) k (suc n) → split_refusal x m e t ≡ suc n
  refused-where k n r = sym rows-number ∙ rows-where (split_rows x m e t) k n r

  pub refused-only : (n : ℕ) → split_refusal x m e t ≡ suc n → (k : ℕ) × RefusedAt (split_rows x m e t) k (suc n)
  refused-only n h = rows-only (split_rows x m e t) (numbered-rows x m e t) n (rows-number ∙ h)

  pub accepted-where : ((k : ℕ) → Passes (get_or (split_rows x m e t) k [])) → split_refusal x m e t ≡ 0
  accepted-where p = sym rows-number ∙ rows_pass (split_rows x m e t) p

  pub accepted-only : split_refusal x m e t ≡ 0 → (k : ℕ) → Passes (get_or (split_rows x m e t) k [])
  accepted-only h = pass-only (split_rows x m e t) (numbered-rows x m e t) (rows-number ∙ h)

pub row-of-answer : (x : Limits) (m : Model) (e : ℕ) (t : Float) (n : ℕ) → split_line_edge x m e t ≡ refused n → (k : ℕ) × RefusedAt (split_rows x m e t) k n
row-of-answer x m e t zero h = absurd (never-zero (split_refusal x m e t) h)
  where
    never-zero : (k : ℕ) → answered {A = EdgeSplit} k (record { original_edge = e; new_edge = m.edges.used; vertex = m.vertices.used }) ≡ refused 0 → ⊥
    never-zero zero h = let z : ◌≡◌ {A = ℕ} 0 1 = cc in omega arith
    never-zero (suc k) h = let z : suc k ≡ 0 = cc in omega arith
row-of-answer x m e t (suc n) h = refused-only x m e t n (answered-refused (suc n) (split_refusal x m e t) (record { original_edge = e; new_edge = m.edges.used; vertex = m.vertices.used }) h)
