-- Sums of whole numbers over a list of ids: lists with the same counts have the same sum, and a sum whose sign an exchange of its entries turns is 0.
-- Assumes nothing.
use Rattle.std.specs.Prelude.{ℕ, suc, ◌+◌, ◌≤◌, ◌≡◌, Bool, true, false, cond, eqb, ℤ, pos, neg_ℤ, ◌+ℤ◌}
use Rattle.std.proofs.Common.{arith, sym, ap, ap₂, ◌∙◌, eqb-true, eq-eqb, ne_eqb}
use Rattle.std.proofs.Math.Path.{refl}
use mathlib.Core.List.{List, [], ◌∷◌, ◌++◌, map}
use Rattle.std.proofs.Math.IntN.{+ℤ_idl, +ℤ_assoc, +ℤ_comm, neg_ℤ-+ℤ}
use Rattle.std.proofs.lemmas.Bool.{eqb-false}
use Rattle.meaning.specs.Lists.{member, count, joined}
use Rattle.meaning.specs.Formed.{bit}
use Rattle.meaning_list_laws.specs.Lists.{count_none, count-cons, count-append, count_less, count-absent, count-once, member-head, member-tail, less_one}
use Rattle.meaning_shift.specs.Integers.{own-negative}

unfoldable pub sum_over : (ℕ → ℤ) → List ℕ → ℤ
sum_over f [] = pos 0
sum_over f (x ∷ l) = f x +ℤ sum_over f l

pub sum-append : (f : ℕ → ℤ) (k l : List ℕ) → sum_over f (k ++ l) ≡ sum_over f k +ℤ sum_over f l
unfolding sum_over
sum-append f [] l = sym (+ℤ_idl (sum_over f l))
sum-append f (x ∷ k) l = ap (λ (z : ℤ). f x +ℤ z) (sum-append f k l) ∙ sym (+ℤ_assoc (f x) (sum_over f k) (sum_over f l))

-- ---- the same counts, the same sum

sum_less : (f : ℕ → ℤ) (x : ℕ) (l : List ℕ) → 1 ≤ count x l → f x +ℤ sum_over f (less_one x l) ≡ sum_over f l
unfolding less_one count sum_over
sum_less f x [] h = absurd (omega arith)
sum_less f x (y ∷ l) h = by (eqb x y) refl h (sum_less f x l)
  where
    by : (b : Bool) → eqb x y ≡ b → 1 ≤ cond b (suc (count x l)) (count x l) → (1 ≤ count x l → f x +ℤ sum_over f (less_one x l) ≡ sum_over f l)
        → f x +ℤ sum_over f (cond b l (y ∷ less_one x l)) ≡ f y +ℤ sum_over f l
    by true q r rest = ap (λ (z : ℕ). f z +ℤ sum_over f l) (eqb-true x y q)
    by false q r rest =
        sym (+ℤ_assoc (f x) (f y) (sum_over f (less_one x l)))
        ∙ ap (λ (z : ℤ). z +ℤ sum_over f (less_one x l)) (+ℤ_comm (f x) (f y))
        ∙ +ℤ_assoc (f y) (f x) (sum_over f (less_one x l))
        ∙ ap (λ (z : ℤ). f y +ℤ z) (rest r)

pub sum_same : (f : ℕ → ℤ) (k l : List ℕ) → ((c : ℕ) → count c k ≡ count c l) → sum_over f k ≡ sum_over f l
unfolding sum_over
sum_same f [] [] h = refl
sum_same f [] (y ∷ l) h = let z : 1 ≤ count y [] = rw (h y, count-cons y y l, eq-eqb y y refl) (omega arith) in absurd (omega (arith, count_none y))
sum_same f (y ∷ k) l h =
    let there : 1 ≤ count y l = rw (← h y, count-cons y y k, eq-eqb y y refl) (omega arith) in
    ap (λ (z : ℤ). f y +ℤ z) (sum_same f k (less_one y l) (λ c. less c there)) ∙ sum_less f y l there
  where
    less : (c : ℕ) → 1 ≤ count y l → count c k ≡ count c (less_one y l)
    less c there =
        let both : cond (eqb c y) 1 0 + count c k ≡ cond (eqb c y) 1 0 + count c (less_one y l) = sym (count-cons c y k) ∙ h c ∙ sym (count_less y c l there) in
        omega arith

-- ---- an exchange of the entries that turns the sign

sum-turned : (f : ℕ → ℤ) (σ : ℕ → ℕ) (l : List ℕ) → ((x : ℕ) → member x l ≡ true → f (σ x) ≡ neg_ℤ (f x)) → sum_over f (map σ l) ≡ neg_ℤ (sum_over f l)
unfolding sum_over
sum-turned f σ [] h = refl
sum-turned f σ (x ∷ l) h =
    ap₂ (λ (y : ℤ) (z : ℤ). y +ℤ z) (h x (member-head x l)) (sum-turned f σ l (λ y q. h y (member-tail y x l q)))
    ∙ sym (neg_ℤ-+ℤ (f x) (sum_over f l))

-- what permutes a list and turns the sign of every term: the sum is its own negative
pub sum-none : (f : ℕ → ℤ) (σ : ℕ → ℕ) (l : List ℕ) → ((c : ℕ) → count c (map σ l) ≡ count c l)
    → ((x : ℕ) → member x l ≡ true → f (σ x) ≡ neg_ℤ (f x)) → sum_over f l ≡ pos 0
sum-none f σ l same turned = own-negative (sum_over f l) (sym (sum_same f (map σ l) l same) ∙ sum-turned f σ l turned)

-- ---- an exchange of the entries of a list without repeats permutes it

module _ (σ : ℕ → ℕ) where
  -- c comes of d alone
  count-from : (c d : ℕ) (l : List ℕ) → ((x : ℕ) → member x l ≡ true → eqb c (σ x) ≡ eqb d x) → count c (map σ l) ≡ count d l
  unfolding count
  count-from c d [] h = refl
  count-from c d (x ∷ l) h = rw (h x (member-head x l), count-from c d l (λ y q. h y (member-tail y x l q)))

  -- c comes of none
  count-from-none : (c : ℕ) (l : List ℕ) → ((x : ℕ) → member x l ≡ true → eqb c (σ x) ≡ false) → count c (map σ l) ≡ 0
  unfolding count
  count-from-none c [] h = refl
  count-from-none c (x ∷ l) h = rw (h x (member-head x l)) (count-from-none c l (λ y q. h y (member-tail y x l q)))

  pub exchanged : (l : List ℕ) → ((c : ℕ) → count c l ≤ 1) → ((x : ℕ) → member x l ≡ true → member (σ x) l ≡ true)
      → ((x : ℕ) → member x l ≡ true → σ (σ x) ≡ x) → (c : ℕ) → count c (map σ l) ≡ count c l
  exchanged l once into back c = by (member c l) refl
    where
      agree : member c l ≡ true → (x : ℕ) → member x l ≡ true → (b : Bool) → eqb (σ c) x ≡ b → eqb c (σ x) ≡ b
      agree i x j true e = eq-eqb c (σ x) (sym (back c i) ∙ ap σ (eqb-true (σ c) x e))
      agree i x j false e = ne_eqb c (σ x) (λ q. eqb-false (σ c) x e (ap σ q ∙ back x j))

      other : member c l ≡ false → (x : ℕ) → member x l ≡ true → (b : Bool) → eqb c (σ x) ≡ b → b ≡ false
      other n x j false e = refl
      other n x j true e = sym (into x j) ∙ ap (λ (z : ℕ). member z l) (sym (eqb-true c (σ x) e)) ∙ n

      by : (b : Bool) → member c l ≡ b → count c (map σ l) ≡ count c l
      by true i =
          count-from c (σ c) l (λ x j. agree i x j (eqb (σ c) x) refl)
          ∙ count-once (σ c) l (once (σ c)) ∙ ap bit (into c i ∙ sym i) ∙ sym (count-once c l (once c))
      by false n = count-from-none c l (λ x j. other n x j (eqb c (σ x)) refl) ∙ sym (count-absent c l n)

-- ---- lists joined

-- c stands in the list of its own parent alone, and there at most once
pub count-joined : (g : ℕ → List ℕ) (c p : ℕ) (l : List ℕ) → ((y : ℕ) → member y l ≡ true → count c (g y) ≤ cond (eqb p y) 1 0) → count c (joined g l) ≤ count p l
unfolding joined
count-joined g c p [] h = omega (arith, count_none c)
count-joined g c p (y ∷ l) h =
    omega (arith, count-append c (g y) (joined g l), count-cons p y l, h y (member-head y l), count-joined g c p l (λ z q. h z (member-tail z y l q)))
