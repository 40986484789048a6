-- What the proofs of the lookups cite. Assumes nothing.
use Rattle.std.specs.Prelude.{ℕ, ◌<◌, ◌≡◌, refl, Bool, true, false, List, ltb, Float}
use Rattle.std.proofs.Common.{sym, ap, ◌∙◌, subst, arith, ltb-true}
use Rattle.geom_lines_planes.specs.Refuse.{◌unless◌, ◌then◌, answer}
use Rattle.meaning.specs.Model.{Table}
use Rattle.meaning_list_laws.specs.Tests.{refused-answer}
use Rattle.memory_layout.specs.Layout.{word}
use Rattle.memory_layout.specs.Readable.{readable}
use Rattle.memory_layout.specs.Fit.{Fit}
use Rattle.memory_layout.specs.Laws.{fit_of}
use Rattle.memory_contains.specs.Inner.{refusal_at}
use Rattle.memory_lookups.specs.Lookup.{lookup_refusal, looked}

passed : (a b : Bool) → 9 unless a then 2 unless b ≡ 0 → (a ≡ true) × (b ≡ true)
passed true true e = (refl, refl)
passed true false e = absurd (omega arith)
passed false b e = absurd (omega arith)

-- no refusal: the memory is readable, and the record used
pub looked-up : (room w : List ℕ) (x : List Float) (k i m : ℕ) → m ≡ refusal_at room w x k i → m ≡ 0 → Fit room w x × (i < word w k)
looked-up room w x k i m e z =
    let p = passed (readable room w x) (ltb i (word w k)) (sym e ∙ z) in
    (fit_of room w x p.0, ltb-true i (word w k) p.1)

-- the two ways out of a lookup
module _ (room w : List ℕ) (x : List Float) {R B A : Type 0} (is : B → A) (refused : ℕ → A) (seen : R → B) (t : Table R) (i m : ℕ)
    (e : m ≡ lookup_refusal room w x t i) where
  pub look-refused : (m ≡ 0 → ⊥) → refused m ≡ looked room w x is refused seen t i
  look-refused h = subst (λ (n : ℕ). refused m ≡ answer is refused n (seen (t.slot i))) e (refused-answer is refused m (seen (t.slot i)) h)

  pub look-given : (r : B) → m ≡ 0 → r ≡ seen (t.slot i) → is r ≡ looked room w x is refused seen t i
  look-given r z h = subst (λ (n : ℕ). is r ≡ answer is refused n (seen (t.slot i))) (sym z ∙ e) (ap is h)
