-- A call by an office is refused exactly where its row says: `refused-there`, `there-refused`; and accepted where all pass. Assumes nothing.
use Rattle.std.specs.Prelude.{ℕ, zero, suc, ◌<◌, ◌≡◌, refl, Bool, true, false, not, List, [], ◌∷◌, get_or, Float}
use Rattle.std.proofs.Common.{arith, sym, ap, ◌∙◌}
use Rattle.meaning.specs.Refuse.{answered}
use Rattle.meaning.specs.Split.{EdgeSplit}
use Rattle.meaning.specs.Offices.{office_split_refusal}
use Rattle.meaning_split_laws.specs.Rows.{Step, ◌when◌, Passes, RefusedAt}
use Rattle.meaning_office_laws.specs.Terms.{office_rows}
use Rattle.meaning_office_laws.proofs.Refused.{refused-where, refused-only, accepted-where, accepted-only}
use Rattle.memory_layout.specs.Decode.{decode}
use Rattle.memory_layout.specs.Readable.{readable}
use Rattle.memory_layout.specs.Limits.{limits}
use Rattle.split_place.specs.SplitNumber.{office_split_number}
use Rattle.split_sequences.specs.Refused.{passing-says, nine-passes, nine-says, only-nine}
use Rattle.split_offices.specs.Calls.{office_call_rows}

module _ (room w : List ℕ) (x : List Float) (o e : ℕ) (t : Float) where
  abbrev nine : List Step
  nine = 9 when not (readable room w x) ∷ []

  abbrev rest : List (List Step)
  rest = office_rows (limits room) (decode room w x) o e t

  -- in readable memory the number of a call is that of the tests
  pub number_read : readable room w x ≡ true → office_split_number room w x o e t ≡ office_split_refusal (limits room) (decode room w x) o e t
  unfolding office_split_number
  number_read r = rw r

  unread : readable room w x ≡ false → office_split_number room w x o e t ≡ 9
  unfolding office_split_number
  unread h = rw h

  pub refused-there : (n : ℕ) → office_split_number room w x o e t ≡ suc n → (k : ℕ) × RefusedAt (office_call_rows room w x o e t) k (suc n)
  refused-there n z = by (readable room w x) refl
    where
      passes : readable room w x ≡ true → (k j : ℕ) → RefusedAt rest k (suc n) → j < suc k → Passes (get_or (nine ∷ rest) j [])
      passes r k zero f h = nine-passes (readable room w x) r
      passes r k (suc j) f h = f.before j (omega arith)

      by : (b : Bool) → readable room w x ≡ b → (k : ℕ) × RefusedAt (nine ∷ rest) k (suc n)
      by true r =
          let f = refused-only (limits room) (decode room w x) o e t n (ap (λ i. answered {A = EdgeSplit} i (record { original_edge = e; new_edge = (decode room w x).edges.used; vertex = (decode room w x).vertices.used })) (sym (number_read r) ∙ z)) in
          (suc f.0, record { before = λ j h. passes r f.0 j f.1 h; here = f.1.here })
      by false r = (0, rw (sym z ∙ unread r) (record { before = λ j h. absurd (omega arith); here = nine-says (readable room w x) r }))

  pub there-refused : (k n : ℕ) → RefusedAt (office_call_rows room w x o e t) k (suc n) → office_split_number room w x o e t ≡ suc n
  there-refused k n f = by (readable room w x) refl k f
    where
      by : (b : Bool) → readable room w x ≡ b → (k : ℕ) → RefusedAt (nine ∷ rest) k (suc n) → office_split_number room w x o e t ≡ suc n
      by true r zero f = absurd (passing-says nine (suc n) (nine-passes (readable room w x) r) f.here)
      by true r (suc k) f = number_read r ∙ refused-where (limits room) (decode room w x) o e t k n (record { before = λ j h. f.before (suc j) (omega arith); here = f.here })
      by false r k f = unread r ∙ sym (only-nine (readable room w x) rest r k (suc n) f)

  pub accepted-there : office_split_number room w x o e t ≡ 0 → (k : ℕ) → Passes (get_or (office_call_rows room w x o e t) k [])
  accepted-there z k = by (readable room w x) refl k
    where
      by : (b : Bool) → readable room w x ≡ b → (k : ℕ) → Passes (get_or (nine ∷ rest) k [])
      by true r zero = nine-passes (readable room w x) r
      by true r (suc k) = accepted-only (limits room) (decode room w x) o e t (sym (number_read r) ∙ z) k
      by false r k = absurd (let n : ◌≡◌ {A = ℕ} 9 0 = sym (unread r) ∙ z in omega arith)

  pub there-accepted : ((k : ℕ) → Passes (get_or (office_call_rows room w x o e t) k [])) → office_split_number room w x o e t ≡ 0
  there-accepted p = by (readable room w x) refl
    where
      by : (b : Bool) → readable room w x ≡ b → office_split_number room w x o e t ≡ 0
      by true r = number_read r ∙ accepted-where (limits room) (decode room w x) o e t (λ k. p (suc k))
      by false r = absurd (passing-says nine 9 (p 0) (nine-says (readable room w x) r))
