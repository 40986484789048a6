-- The theorems of specs/Statements.antt that rest on those of specs/ that the edits of must-fail/ make fail. Assumes nothing.
use Rattle.std.specs.Prelude.{ℕ, suc, ◌↔◌, ◌≡◌, true, [], leb, get_or, Float}
use Rattle.meaning.specs.Model.{Model, Limits}
use Rattle.meaning.specs.Refuse.{refused, given}
use Rattle.meaning.specs.Split.{test1}
use Rattle.meaning.specs.Formed.{has_edge}
use Rattle.meaning.specs.Offices.{foreign, office_split_refusal, office_split}
use Rattle.meaning_split_laws.specs.Rows.{Passes, RefusedAt}
use Rattle.meaning_split_laws.specs.Refusals.{answered-given}
use Rattle.meaning_office_laws.specs.Terms.{office_rows, OneOffice, AsBefore}
use Rattle.meaning_office_laws.specs.Passed.{foreign-in}
use Rattle.meaning_office_laws.proofs.Refused.{refused-where, refused-only, accepted-where, accepted-only, other-refused}
use Rattle.meaning_office_laws.proofs.Alone.{as_before}

-- 5. "Each refusal comes exactly where its row in 01 says", with 1 for the office in front and 2 for a foreign edge in the place of a missing one (`office_rows`: Terms.antt)
pub refused-by-row : (x : Limits) (m : Model) (o e : ℕ) (t : Float) (n : ℕ)
    → (office_split x m o e t ≡ refused (suc n)) ↔ ((k : ℕ) × RefusedAt (office_rows x m o e t) k (suc n))
refused-by-row x m o e t n = (refused-only x m o e t n, λ r. rw (refused-where x m o e t r.0 n r.1))

pub accepted-by-rows : (x : Limits) (m : Model) (o e : ℕ) (t : Float)
    → (office_split x m o e t ≡ given (record { original_edge = e; new_edge = m.edges.used; vertex = m.vertices.used }))
    ↔ ((k : ℕ) → Passes (get_or (office_rows x m o e t) k []))
accepted-by-rows x m o e t = (λ h. accepted-only x m o e t (answered-given (office_split_refusal x m o e t) _ _ h), λ p. rw (accepted-where x m o e t p))

-- with 2, "in the place of a missing one": behind test 1
pub foreign-edge-refused : (x : Limits) (m : Model) (o e : ℕ) (t : Float) → leb o 1 ≡ true → test1 t ≡ 0
    → (c : ℕ) → foreign m o c ≡ true → has_edge m c e ≡ true → office_split x m o e t ≡ refused 2
foreign-edge-refused x m o e t h f c g q = rw (other-refused x m o e t h f (foreign-in m o e c g q))

-- ---- with one office alone every answer and every split is the one of before

pub one-office-as-before : (m : Model) (o : ℕ) → OneOffice m o → AsBefore m o
one-office-as-before = as_before
