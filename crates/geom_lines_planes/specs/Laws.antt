-- An answer that is an enum, made by `answer` of 01's number and a value, read back behind a match. Assumes nothing.
use Rattle.std.specs.Prelude.{ℕ, zero, suc, ◌-◌, ◌≡◌, refl, Bool, true, false, ◌==◌, if◌then◌else◌, Ok, Err}
use Rattle.std.proofs.Common.{sym, ap, ◌∙◌, arith, eqb-true}
use Rattle.geom_lines_planes.specs.Refuse.{answer}
use Rattle.geom_lines_planes.specs.declared.refusal.Refusal.{Refusal}
use Rattle.geom_lines_planes.specs.Refusals.{refusal, number_of, refused, answered}

-- a refusal: the number is not 0
pub record Refuses (n m : ℕ) : Type 0 where
  pub less : ℕ
  pub number : n ≡ suc less
  pub given : m ≡ suc less

-- a value: the number is 0
pub record Gives {B : Type 0} (n : ℕ) (v w : B) : Type 0 where
  pub number : n ≡ 0
  pub value : v ≡ w

-- the two cases of the enum differ, and each holds what it was made of
pub record Cases {B A : Type 0} (is : B → A) (refused : ℕ → A) : Type 0 where
  pub apart : (b : B) (m : ℕ) → is b ≡ refused m → ◌≡◌ {A = ℕ} 0 1
  pub values : (a b : B) → is a ≡ is b → a ≡ b
  pub numbers : (m n : ℕ) → refused m ≡ refused n → m ≡ n

module _ {B A : Type 0} {is : B → A} {refused : ℕ → A} (cases : Cases is refused) where
  -- in the arm of a value: the number is 0, and the value is the answer's
  pub given : (n : ℕ) (v b : B) → answer is refused n v ≡ is b → (0 ≡ n) × (b ≡ v)
  given zero v b e = (refl, sym (cases.values v b e))
  given (suc n) v b e = let z : ◌≡◌ {A = ℕ} 0 1 = cases.apart b (suc n) (sym e) in absurd (omega arith)

  -- in the arm of a refusal: the number is the answer's, and not 0
  pub denied : (n : ℕ) (v : B) (m : ℕ) → answer is refused n v ≡ refused m → (m ≡ n) × (m ≡ suc (m - 1))
  denied zero v m e = let z : ◌≡◌ {A = ℕ} 0 1 = cases.apart v m e in absurd (omega arith)
  denied (suc n) v m e = let h : m ≡ suc n = sym (cases.numbers (suc n) m e) in (h, omega arith)

  -- the same, as records
  pub read-value : (n : ℕ) (v w : B) → answer is refused n v ≡ is w → Gives n v w
  read-value n v w e = let d = given n v w e in record { number = sym d.0; value = sym d.1 }

  pub read-refusal : (n m : ℕ) (v : B) → answer is refused n v ≡ refused m → Refuses n m
  read-refusal n m v e = let d = denied n v m e in record { less = m - 1; number = sym d.0 ∙ d.1; given = d.1 }

-- ---- answers that are a `Result`

named : (n k : ℕ) (r s : Refusal) → k ≡ number_of r → number_of s ≡ n → number_of (if n == k then r else s) ≡ n
named n k r s h g = go (n == k) (eqb-true n k)
  where
    go : (b : Bool) → (b ≡ true → n ≡ k) → number_of (if b then r else s) ≡ n
    go true f = sym (f refl ∙ h)
    go false f = g

-- a refusal tells its number
pub number-back : (n : ℕ) → number_of (refusal n) ≡ n
number-back n =
    named n 1 _ _ refl (named n 2 _ _ refl (named n 4 _ _ refl (named n 5 _ _ refl (named n 6 _ _ refl (named n 7 _ _ refl (named n 8 _ _ refl (named n 9 _ _ refl refl)))))))

pub result-cases : {B : Type 0} → Cases {B = B} Ok refused
result-cases =
    record {
      apart = λ b m e. cc;
      values = λ a b e. cc;
      numbers = λ m n e. let f : refusal m ≡ refusal n = cc in sym (number-back m) ∙ ap number_of f ∙ number-back n;
    }

-- a refusal that is handed on: the number is not 0, and the refusal is the number's
pub record RefusedBy (n : ℕ) (e : Refusal) : Type 0 where
  pub less : ℕ
  pub number : n ≡ suc less
  pub given : e ≡ refusal (suc less)
  pub told : number_of e ≡ suc less

pub read-err : {B : Type 0} (n : ℕ) (v : B) (e : Refusal) → answered n v ≡ Err e → RefusedBy n e
read-err zero v e h = let z : ◌≡◌ {A = ℕ} 0 1 = cc in absurd (omega arith)
read-err (suc n) v e h =
    let f : refusal (suc n) ≡ e = cc in
    record { less = n; number = refl; given = sym f; told = ap number_of (sym f) ∙ number-back (suc n) }

-- the same by the refusal's number
pub read-number : {B : Type 0} (n m : ℕ) (v : B) (e : Refusal) → answered n v ≡ Err e → m ≡ number_of e → Refuses n m
read-number n m v e h told = let r = read-err n v e h in record { less = r.less; number = r.number; given = told ∙ r.told }

pub read-ok : {B : Type 0} (n : ℕ) (v w : B) → answered n v ≡ Ok w → Gives n v w
read-ok n v w h = read-value result-cases n v w h

-- a refusal that is told by its number
pub as-number : {B : Type 0} (n : ℕ) (v : B) (e : Refusal) → answered n v ≡ Err e → answered n v ≡ refused (number_of e)
as-number n v e h = let r = read-err n v e h in h ∙ ap Err (r.given ∙ ap refusal (sym r.told))
