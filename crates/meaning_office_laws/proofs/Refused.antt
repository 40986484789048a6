-- The theorems of specs/Refused.antt that rest on those of specs/ that the edits of must-fail/ make fail. Assumes nothing.
use Prim.Native.Nat.{ℕ, suc}
use Rattle.std.proofs.Common.{arith, ◌∙◌}
use Rattle.std.specs.Prelude.{◌≡◌, Bool, cond, ◌&&◌, [], ◌∷◌, map, leb, get_or, Float}
use Rattle.std.proofs.Math.Path.{sym, ap}
use Rattle.std.proofs.Math.Bool.{true, false, not}
use borrow.Author.Tests.{le-ltb}
use Rattle.geom_lines_planes.specs.Refuse.{◌unless◌, ◌then◌}
use Rattle.meaning.specs.Model.{Model, Limits, has}
use Rattle.meaning.specs.Refuse.{refused, first_refusal}
use Rattle.meaning.specs.Split.{test1, split_tests, split_refusal}
use Rattle.meaning.specs.Offices.{office_refusal, foreign_edge, edge_for, office_split_refusal, office_split}
use Rattle.meaning_list_laws.specs.Tests.{and-true, and-false}
use Rattle.meaning_split_laws.specs.Rows.{Passes, RefusedAt}
use Rattle.meaning_split_laws.specs.Refusals.{first, rows-where, rows-only, rows_pass, pass-only, answered-refused}
use Rattle.meaning_office_laws.specs.Terms.{office_rows}
use Rattle.meaning_office_laws.specs.Refused.{later, rows-tests, numbered}

module _ (x : Limits) (m : Model) (o e : ℕ) (t : Float) where
  pub rows-number : first_refusal (map first (office_rows x m o e t)) ≡ office_split_refusal x m o e t
  unfolding office_split_refusal split_refusal edge_for first_refusal
  rows-number = ap first_refusal (rows-tests x m o e t) ∙ go (foreign_edge m o e)
    where
      go : (b : Bool) → first_refusal (office_refusal o ∷ test1 t ∷ (2 unless (has m.edges e && not b)) ∷ later x m o e t) ≡ (office_refusal o then first_refusal (split_tests x m (cond b m.edges.used e) t))
      go true = rw (and-false (has m.edges e), le-ltb m.edges.used m.edges.used (omega arith))
      go false = rw (and-true (has m.edges e))

  pub refused-where : (k n : ℕ) → RefusedAt (office_rows x m o e t) k (suc n) → office_split_refusal x m o e t ≡ suc n
  refused-where k n r = sym rows-number ∙ rows-where (office_rows x m o e t) k n r

  pub refused-only : (n : ℕ) → office_split x m o e t ≡ refused (suc n) → (k : ℕ) × RefusedAt (office_rows x m o e t) k (suc n)
  refused-only n h = rows-only (office_rows x m o e t) (numbered x m o e t) n (rows-number ∙ answered-refused (suc n) (office_split_refusal x m o e t) _ h)

  pub accepted-where : ((k : ℕ) → Passes (get_or (office_rows x m o e t) k [])) → office_split_refusal x m o e t ≡ 0
  accepted-where p = sym rows-number ∙ rows_pass (office_rows x m o e t) p

  pub accepted-only : office_split_refusal x m o e t ≡ 0 → (k : ℕ) → Passes (get_or (office_rows x m o e t) k [])
  accepted-only h = pass-only (office_rows x m o e t) (numbered x m o e t) (rows-number ∙ h)

  -- an edge of the other's, at a fraction that passes test 1
  pub other-refused : leb o 1 ≡ true → test1 t ≡ 0 → foreign_edge m o e ≡ true → office_split_refusal x m o e t ≡ 2
  unfolding first_refusal
  other-refused h f g = sym rows-number ∙ ap first_refusal (rows-tests x m o e t) ∙ rw (h, f, g, and-false (has m.edges e))
