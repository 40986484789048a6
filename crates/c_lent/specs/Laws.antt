-- What the proofs cite of an answer that crosses to C. Assumes nothing.
use Rattle.std.specs.Prelude.{ℕ, zero, suc, ◌-◌, ◌≡◌, refl}
use Rattle.std.proofs.Common.{sym, ap, ◌∙◌, arith}
use Rattle.geom_lines_planes.specs.Refuse.{answer}
use Rattle.geom_lines_planes.specs.Laws.{Cases}
use Rattle.memory_writes.specs.Put.{unless_refused}
use Rattle.c_lent.specs.Lent.{Crosses}

module _ {B A : Type 0} {is : B → A} {refused : ℕ → A} (cases : Cases is refused) where
  -- what crosses in the arm of a value, and in that of a refusal
  module _ {S : Type 0} {value : B → S} {a : A} {old : S} where
    pub value-crosses : {new : S} (b : B) → a ≡ is b → new ≡ value b → Crosses is refused value a 0 old new
    value-crosses b e h =
        record {
          of-value = λ v f. (refl, h ∙ ap value (cases.values b v (sym e ∙ f)));
          of-refusal = λ n f. let z : ◌≡◌ {A = ℕ} 0 1 = cases.apart b n (sym e ∙ f) in absurd (omega arith);
        }

    pub refusal-crosses : (n : ℕ) → a ≡ refused n → Crosses is refused value a n old old
    refusal-crosses n e =
        record {
          of-value = λ v f. let z : ◌≡◌ {A = ℕ} 0 1 = cases.apart v n (sym f ∙ e) in absurd (omega arith);
          of-refusal = λ m f. (cases.numbers n m (sym e ∙ f), refl);
        }

-- an answer that is made of a number and a value (01, "a definition gives this paper's number and values for each case of the enum": `answer`), crossed to C: r is the number,
-- and the slots hold the value, or what they held where it is refused
pub crossed : {B A S : Type 0} {is : B → A} {refused : ℕ → A} {value : B → S} {a : A} {r : ℕ} {old new : S}
    → Crosses is refused value a r old new
    → (n : ℕ) (b : B) → a ≡ answer is refused n b → (r ≡ n) × (new ≡ unless_refused r (value b) old)
crossed h zero b e = let p = h.of-value b e in (p.0, rw p.0 p.1)
crossed h (suc n) b e = let p = h.of-refusal (suc n) e in (p.0, rw p.0 p.1)
