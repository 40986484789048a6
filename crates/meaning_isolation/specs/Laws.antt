-- What is made of a list, of a test and of a row of refusals is the same where each part that is read is; what is met is a member. Assumes nothing.
use Rattle.std.specs.Prelude.{ℕ, zero, suc, ◌<◌, ◌≡◌, refl, Bool, true, false, ◌&&◌, ◌||◌, ◌⊎◌, eqb}
use Rattle.std.proofs.Common.{arith, sym, ◌∙◌, subst, inl, inr, eqb-true}
use Rattle.std.proofs.Math.Path.{ap}
use Rattle.std.proofs.Math.Bool.{cond}
use Rattle.std.proofs.lemmas.Bool.{false≢true}
use mathlib.Core.List.{List, [], ◌∷◌, ◌++◌, map}
use Rattle.std.proofs.Math.Option.{Option, none, some}
use Rattle.geom_lines_planes.specs.Refuse.{◌then◌}
use Rattle.geom_carriers.specs.declared.Carrier.{Carrier}
use Rattle.std.specs.Prelude.{Some, None}
use Rattle.meaning.specs.Lists.{run, all, any, joined, member, listed, the, is_some}
use Rattle.meaning.specs.Model.{Table, has, carrier_at}
use Rattle.meaning.specs.Refuse.{Answer, refused, given, answered, first_of}
use Rattle.meaning_list_laws.specs.Tests.{then-zero}
use Rattle.meaning_list_laws.specs.Lists.{member-append, member-none, member-cons, member-head, member-tail, member-counted, count-run-in, all-member, fold-in}
use Rattle.meaning_isolation.specs.Reached.{named, Agree}

-- ---- tests, refusals and answers

pub and_same : (a a' b b' : Bool) → a ≡ a' → (a ≡ true → b ≡ b') → (a && b) ≡ (a' && b')
and_same a a' b b' e f = rw (← e) (go a f)
  where
    go : (a : Bool) → (a ≡ true → b ≡ b') → (a && b) ≡ (a && b')
    go true f = f refl
    go false f = refl

pub cond_same : {A : Type 0} (a a' : Bool) (x x' y y' : A) → a ≡ a' → (a ≡ true → x ≡ x') → (a ≡ false → y ≡ y') → cond a x y ≡ cond a' x' y'
cond_same a a' x x' y y' e f g = rw (← e) (go a f g)
  where
    go : (a : Bool) → (a ≡ true → x ≡ x') → (a ≡ false → y ≡ y') → cond a x y ≡ cond a x' y'
    go true f g = f refl
    go false f g = g refl

pub then_same : (a a' b b' : ℕ) → a ≡ a' → (a ≡ 0 → b ≡ b') → (a then b) ≡ (a' then b')
then_same a a' b b' e f = rw (← e) (go a f)
  where
    go : (a : ℕ) → (a ≡ 0 → b ≡ b') → (a then b) ≡ (a then b')
    go zero f = f refl
    go (suc n) f = refl

pub answered-same : {A : Type 0} (a a' : ℕ) (x x' : A) → a ≡ a' → (a ≡ 0 → x ≡ x') → answered a x ≡ answered a' x'
answered-same a a' x x' e f = rw (← e) (go a f)
  where
    go : (a : ℕ) → (a ≡ 0 → x ≡ x') → answered a x ≡ answered a x'
    go zero f = ap (answered 0) (f refl)
    go (suc n) f = refl

-- and what two such answers are made of
abbrev number_in : {A : Type 0} → Answer A → ℕ
number_in (refused n) = n
number_in (given x) = 0

abbrev value_in : {A : Type 0} → A → Answer A → A
value_in y (refused n) = y
value_in y (given x) = x

pub answered-number : {A : Type 0} (a a' : ℕ) (x x' : A) → answered a x ≡ answered a' x' → a ≡ a'
answered-number a a' x x' e = sym (number a x) ∙ ap number_in e ∙ number a' x'
  where
    number : {A : Type 0} (a : ℕ) (x : A) → number_in (answered a x) ≡ a
    number zero x = refl
    number (suc a) x = refl

pub answered-value : {A : Type 0} (a a' : ℕ) (x x' : A) → answered a x ≡ answered a' x' → a ≡ 0 → x ≡ x'
answered-value a a' x x' e z = sym (ap (λ n. value_in x (answered n x)) z) ∙ ap (value_in x) e ∙ ap (λ n. value_in x (answered n x')) (sym (answered-number a a' x x' e) ∙ z)

-- ---- members

pub in-front : (x : ℕ) (k l : List ℕ) → member x k ≡ true → member x (k ++ l) ≡ true
in-front x k l h = member-append x k l ∙ rw h

pub behind : (x : ℕ) (k l : List ℕ) → member x l ≡ true → member x (k ++ l) ≡ true
behind x k l h = member-append x k l ∙ rw h (go (member x k))
  where
    go : (b : Bool) → (b || true) ≡ true
    go true = refl
    go false = refl

-- an entry of two lists is one of either, an entry of a mapped list is made of one
pub append-from : (x : ℕ) (k l : List ℕ) → member x (k ++ l) ≡ true → (member x k ≡ true) ⊎ (member x l ≡ true)
append-from x k l h = go (member x k) refl
  where
    go : (b : Bool) → member x k ≡ b → (member x k ≡ true) ⊎ (member x l ≡ true)
    go true e = inl e
    go false e = inr (sym (ap (λ c. c || member x l) e) ∙ sym (member-append x k l) ∙ h)

pub map-from : (h : ℕ → ℕ) (l : List ℕ) (x : ℕ) → member x (map h l) ≡ true → (y : ℕ) × (member y l ≡ true) × (h y ≡ x)
map-from h [] x g = absurd (false≢true (sym (member-none x) ∙ g))
map-from h (y ∷ l) x g = by (eqb x (h y)) (eqb-true x (h y)) (sym (member-cons x (h y) (map h l)) ∙ g) (λ q. map-from h l x q)
  where
    by : (b : Bool) → (b ≡ true → x ≡ h y) → (b || member x (map h l)) ≡ true → (member x (map h l) ≡ true → (z : ℕ) × (member z l ≡ true) × (h z ≡ x))
        → (z : ℕ) × (member z (y ∷ l) ≡ true) × (h z ≡ x)
    by true e q again = (y, member-head y l, sym (e refl))
    by false e q again = let rest = again q in (rest.0, member-tail rest.0 y l rest.1, rest.2)

-- an entry of a joined list comes from one of its parts
pub joined-from : (f : ℕ → List ℕ) (l : List ℕ) (x : ℕ) → member x (joined f l) ≡ true → (y : ℕ) × (member y l ≡ true) × (member x (f y) ≡ true)
unfolding joined
joined-from f [] x h = absurd (false≢true (sym (member-none x) ∙ h))
joined-from f (y ∷ l) x h = by (member x (f y)) refl (λ q. joined-from f l x q)
  where
    by : (b : Bool) → member x (f y) ≡ b → (member x (joined f l) ≡ true → (z : ℕ) × (member z l ≡ true) × (member x (f z) ≡ true))
        → (z : ℕ) × (member z (y ∷ l) ≡ true) × (member x (f z) ≡ true)
    by true e again = (y, member-head y l, e)
    by false e again =
        let rest = again (sym (ap (λ b. b || member x (joined f l)) e) ∙ sym (member-append x (f y) (joined f l)) ∙ h) in
        (rest.0, member-tail rest.0 y l rest.1, rest.2)

pub joined_in : (f : ℕ → List ℕ) (l : List ℕ) (y x : ℕ) → member y l ≡ true → member x (f y) ≡ true → member x (joined f l) ≡ true
unfolding joined member
joined_in f [] y x h g = absurd (false≢true h)
joined_in f (z ∷ l) y x h g = by (eqb y z) (eqb-true y z) h (λ q. joined_in f l y x q g)
  where
    by : (b : Bool) → (b ≡ true → y ≡ z) → (b || member y l) ≡ true → (member y l ≡ true → member x (joined f l) ≡ true) → member x (f z ++ joined f l) ≡ true
    by true e q again = in-front x (f z) (joined f l) (subst (λ (k : ℕ). member x (f k) ≡ true) (e refl) g)
    by false e q again = behind x (f z) (joined f l) (again q)

pub map-in : (h : ℕ → ℕ) (l : List ℕ) (y : ℕ) → member y l ≡ true → member (h y) (map h l) ≡ true
map-in h [] y g = absurd (false≢true (sym (member-none y) ∙ g))
map-in h (z ∷ l) y g = by (eqb y z) (eqb-true y z) (sym (member-cons y z l) ∙ g) (λ q. map-in h l y q)
  where
    by : (b : Bool) → (b ≡ true → y ≡ z) → (b || member y l) ≡ true → (member y l ≡ true → member (h y) (map h l) ≡ true) → member (h y) (h z ∷ map h l) ≡ true
    by true e q again = subst (λ (k : ℕ). member (h y) (h k ∷ map h l) ≡ true) (e refl) (member-head (h y) (map h l))
    by false e q again = member-tail (h y) (h z) (map h l) (again q)

-- the id that there is, is listed
pub the-listed : (o : Option ℕ) → is_some o ≡ true → member (the o) (listed o) ≡ true
the-listed none h = absurd (false≢true h)
the-listed (some i) h = member-head i []

-- every number below n
pub member-run : (n x : ℕ) → x < n → member x (run 0 n) ≡ true
member-run n x h = member-counted x (run 0 n) (omega (arith, count-run-in 0 n x (omega arith) (omega arith)))

-- some entry passes exactly where one that is listed does
pub any-in : (p : ℕ → Bool) (l : List ℕ) (y : ℕ) → member y l ≡ true → p y ≡ true → any p l ≡ true
unfolding any
any-in p [] y h g = absurd (false≢true (sym (member-none y) ∙ h))
any-in p (z ∷ l) y h g = by (eqb y z) (eqb-true y z) (sym (member-cons y z l) ∙ h) (λ q. any-in p l y q g)
  where
    either : (b : Bool) → (b || true) ≡ true
    either true = refl
    either false = refl

    by : (b : Bool) → (b ≡ true → y ≡ z) → (b || member y l) ≡ true → (member y l ≡ true → any p l ≡ true) → (p z || any p l) ≡ true
    by true e q again = rw (sym (ap p (e refl)) ∙ g)
    by false e q again = rw (again q) (either (p z))

pub any-from : (p : ℕ → Bool) (l : List ℕ) → any p l ≡ true → (y : ℕ) × (member y l ≡ true) × (p y ≡ true)
unfolding any
any-from p [] h = absurd (false≢true h)
any-from p (z ∷ l) h = by (p z) refl (λ q. any-from p l q)
  where
    by : (b : Bool) → p z ≡ b → (any p l ≡ true → (y : ℕ) × (member y l ≡ true) × (p y ≡ true)) → (y : ℕ) × (member y (z ∷ l) ≡ true) × (p y ≡ true)
    by true e again = (z, member-head z l, e)
    by false e again = let rest = again (sym (ap (λ b. b || any p l) e) ∙ h) in (rest.0, member-tail rest.0 z l rest.1, rest.2)

-- where no entry is refused, a member is not
pub first_of-zero : (f : ℕ → ℕ) (l : List ℕ) (y : ℕ) → first_of f l ≡ 0 → member y l ≡ true → f y ≡ 0
unfolding first_of
first_of-zero f [] y z g = absurd (false≢true (sym (member-none y) ∙ g))
first_of-zero f (x ∷ l) y z g = by (eqb y x) (eqb-true y x) (sym (member-cons y x l) ∙ g) (λ q. first_of-zero f l y (then-zero (f x) (first_of f l) z).1 q)
  where
    by : (b : Bool) → (b ≡ true → y ≡ x) → (b || member y l) ≡ true → (member y l ≡ true → f y ≡ 0) → f y ≡ 0
    by true e q again = ap f (e refl) ∙ (then-zero (f x) (first_of f l) z).0
    by false e q again = again q

-- ---- what is made of a list entry by entry

pub all_alike : (p q : ℕ → Bool) (l : List ℕ) → ((y : ℕ) → member y l ≡ true → p y ≡ q y) → all p l ≡ all q l
unfolding all
all_alike = fold-in all ◌&&◌ true (λ f. refl) (λ f y l. refl)

pub any-alike : (p q : ℕ → Bool) (l : List ℕ) → ((y : ℕ) → member y l ≡ true → p y ≡ q y) → any p l ≡ any q l
unfolding any
any-alike = fold-in any ◌||◌ false (λ f. refl) (λ f y l. refl)

pub joined-alike : {A : Type 0} (f g : ℕ → List A) (l : List ℕ) → ((y : ℕ) → member y l ≡ true → f y ≡ g y) → joined f l ≡ joined g l
unfolding joined
joined-alike = fold-in joined ◌++◌ [] (λ f. refl) (λ f y l. refl)

pub first_of-alike : (f g : ℕ → ℕ) (l : List ℕ) → ((y : ℕ) → member y l ≡ true → f y ≡ g y) → first_of f l ≡ first_of g l
unfolding first_of
first_of-alike = fold-in first_of ◌then◌ 0 (λ f. refl) (λ f y l. refl)

pub map-alike : {A : Type 0} (f g : ℕ → A) (l : List ℕ) → ((y : ℕ) → member y l ≡ true → f y ≡ g y) → map f l ≡ map g l
map-alike = fold-in map (λ a r. a ∷ r) [] (λ f. refl) (λ f y l. refl)

-- ---- what is named

module _ {A : Type 0} where
  pub named_in : (t : Table A) (of : A → List ℕ) (l : List ℕ) (y x : ℕ) → member y l ≡ true → has t y ≡ true → member x (of (t.slot y)) ≡ true → member x (named t of l) ≡ true
  unfolding named
  named_in t of l y x h g e = joined_in (λ i. cond (has t i) (of (t.slot i)) []) l y x h (rw g e)

  -- where two tables agree, the same is named
  pub named-same : (t u : Table A) (of : A → List ℕ) (l : List ℕ) → Agree l t u → named t of l ≡ named u of l
  unfolding named
  named-same t u of l a =
      joined-alike _ _ l (λ i h. cond_same (has t i) (has u i) (of (t.slot i)) (of (u.slot i)) [] [] (a.there i h) (λ e. ap of (a.same i h e)) (λ _. refl))

  -- where all are there, all are named
  pub named-all : (t : Table A) (of : A → List ℕ) (l : List ℕ) → all (has t) l ≡ true → named t of l ≡ joined (λ i. of (t.slot i)) l
  unfolding named
  named-all t of l h = joined-alike _ _ l (λ i g. rw (all-member (has t) l i h g))

-- a carrier that is met
pub carrier-same : (t u : Table Carrier) (l : List ℕ) (c : ℕ) → Agree l t u → member c l ≡ true → carrier_at t c ≡ carrier_at u c
unfolding carrier_at
carrier-same t u l c a h = cond_same (has t c) (has u c) (Some (t.slot c)) (Some (u.slot c)) None None (a.there c h) (λ e. ap Some (a.same c h e)) (λ _. refl)
