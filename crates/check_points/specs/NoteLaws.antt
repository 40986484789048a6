-- What a refusal's number leads to. Assumes nothing.
use Rattle.std.specs.Prelude.{ℕ, zero, suc, ◌<◌, ◌≤◌, ◌≡◌, refl, Bool, true, false, cond, [], ◌∷◌, eqb}
use Rattle.std.proofs.Common.{arith, sym, ap, ne_eqb, eqb-true}
use Rattle.std.proofs.lemmas.Bool.{eqb-false}
use Rattle.meaning.specs.Faults.{Asked, skipped, only_if, fault_on, geometry_error}
use Rattle.check_points.specs.Points.{code_findings, error_code}

error-skipped : (a : Asked) (n : ℕ) → n ≡ 7 → geometry_error a n [] ≡ skipped ∷ []
unfolding geometry_error
error-skipped a n e = ap (λ k. geometry_error a k []) e

error-missing : (a : Asked) (n : ℕ) → n ≡ 2 → geometry_error a n [] ≡ fault_on 25 a ∷ []
unfolding geometry_error
error-missing a n e = ap (λ k. geometry_error a k []) e

error-other : (a : Asked) (n : ℕ) → 0 < n → (n ≡ 7 → ⊥) → (n ≡ 2 → ⊥) → geometry_error a n [] ≡ fault_on 26 a ∷ []
unfolding geometry_error
error-other a zero h p q = absurd (omega arith)
error-other a (suc n) h p q =
    let six : eqb n 6 ≡ false = ne_eqb n 6 (λ e. p (ap suc e)) in
    let one : eqb n 1 ≡ false = ne_eqb n 1 (λ e. q (ap suc e)) in
    rw (six, one)

-- ---- by the code

pub code-none : (c : ℕ) (a : Asked) → c ≡ 0 → code_findings c a ≡ []
code-none c a h = ap (λ n. code_findings n a) h

pub code-skipped : (c : ℕ) (a : Asked) → c ≡ 27 → code_findings c a ≡ skipped ∷ []
code-skipped c a h = ap (λ n. code_findings n a) h

pub code-noted : (c : ℕ) (a : Asked) → (c ≡ 0 → ⊥) → (c ≡ 27 → ⊥) → code_findings c a ≡ fault_on c a ∷ []
code-noted c a p q = rw (ne_eqb c 0 p, ne_eqb c 27 q)

pub error-coded : (a : Asked) (n : ℕ) → 0 < n → geometry_error a n [] ≡ code_findings (error_code n) a
error-coded a n h = by (eqb n 7) (eqb n 2) refl refl
  where
    by : (x y : Bool) → eqb n 7 ≡ x → eqb n 2 ≡ y → geometry_error a n [] ≡ code_findings (cond (eqb n 7) 27 (cond (eqb n 2) 25 26)) a
    by true y e f = rw e (error-skipped a n (eqb-true n 7 e))
    by false true e f = rw (e, f) (error-missing a n (eqb-true n 2 f))
    by false false e f = rw (e, f) (error-other a n h (eqb-false n 7 e) (eqb-false n 2 f))

pub error-few : (n : ℕ) → error_code n ≤ 27
error-few n = by (eqb n 7) (eqb n 2)
  where
    by : (x y : Bool) → cond x 27 (cond y 25 26) ≤ 27
    by true y = omega arith
    by false true = omega arith
    by false false = omega arith

pub off-coded : (b : Bool) (n : ℕ) (a : Asked) → 0 < n → n ≤ 26 → only_if b (fault_on n a) ≡ code_findings (cond b n 0) a
off-coded true n a h g = sym (code-noted n a (λ e. omega arith) (λ e. omega arith))
off-coded false n a h g = refl

pub off-few : (b : Bool) (n : ℕ) → n ≤ 26 → cond b n 0 ≤ 27
off-few true n g = omega arith
off-few false n g = omega arith
