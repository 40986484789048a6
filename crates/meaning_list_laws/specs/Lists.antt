-- Laws of the plain functions on lists: of one entry more in front (-cons) or at the end (-snoc), of two lists (-append). Assumes nothing.
use Rattle.std.specs.Prelude.{ℕ, zero, suc, ◌+◌, ◌≤◌, ◌<◌, ◌≡◌, Bool, true, false, cond, ◌&&◌, ◌||◌, eqb, ltb, leb, length, get_or, drop}
use Rattle.std.proofs.Common.{arith, zero-add, sym, ap, ◌∙◌, subst, length-append, ltb-true, leb-true, eqb-true, lt-ltb, ne_eqb, eq-eqb}
use Rattle.std.proofs.Math.Decide.{dec_lt}
use Rattle.std.proofs.Math.Path.{refl}
use Rattle.std.proofs.lemmas.Bool.{false≢true, eqb-false}
use Rattle.std.proofs.Math.Bool.{or-true}
use mathlib.Core.List.{List, [], ◌∷◌, ◌++◌, map, append_assoc, append-nil}
use Rattle.meaning.specs.Lists.{run, all, member, count, count_if, place, joined, meet, meets, firsts, same}
use Rattle.meaning.specs.Formed.{bit}
use Rattle.meaning_list_laws.specs.Tests.{and_both, and-true, and_assoc, or-false, or-none, or-first}

-- ---- drop

pub drop-end : (k : ℕ) (l : List ℕ) → length l ≤ k → drop k l ≡ []
drop-end zero [] h = refl
drop-end zero (y ∷ l) h = absurd (omega arith)
drop-end (suc k) [] h = refl
drop-end (suc k) (y ∷ l) h = drop-end k l (omega arith)

-- ---- count

pub count_none : (c : ℕ) → count c [] ≡ 0
unfolding count
count_none c = refl

pub count-cons : (c y : ℕ) (l : List ℕ) → count c (y ∷ l) ≡ cond (eqb c y) 1 0 + count c l
unfolding count
count-cons c y l = go (eqb c y) (count c l)
  where
    go : (b : Bool) (n : ℕ) → cond b (suc n) n ≡ cond b 1 0 + n
    go true n = omega arith
    go false n = sym (zero-add n)

pub count-append : (c : ℕ) (k l : List ℕ) → count c (k ++ l) ≡ count c k + count c l
unfolding count
count-append c [] l = sym (zero-add _)
count-append c (y ∷ k) l = go (eqb c y) (count c (k ++ l)) (count c k) (count c l) (count-append c k l)
  where
    go : (b : Bool) (p q r : ℕ) → p ≡ q + r → cond b (suc p) p ≡ cond b (suc q) q + r
    go true p q r h = omega arith
    go false p q r h = h

-- one more entry at the end
pub count-snoc : (c : ℕ) (l : List ℕ) (y : ℕ) → count c (l ++ (y ∷ [])) ≡ count c l + cond (eqb c y) 1 0
unfolding count
count-snoc c [] y = sym (zero-add _)
count-snoc c (z ∷ l) y = go (eqb c z) (count c (l ++ (y ∷ []))) (count c l) (cond (eqb c y) 1 0) (count-snoc c l y)
  where
    go : (b : Bool) (p q r : ℕ) → p ≡ q + r → cond b (suc p) p ≡ cond b (suc q) q + r
    go true p q r h = omega arith
    go false p q r h = h

-- what is above all entries is no entry
pub count-above : (n c : ℕ) (l : List ℕ) → all (λ x. ltb x n) l ≡ true → n ≤ c → count c l ≡ 0
unfolding all count
count-above n c [] e h = refl
count-above n c (y ∷ l) e h =
    let both : (ltb y n ≡ true) × (all (λ x. ltb x n) l ≡ true) = and_both (ltb y n) (all (λ x. ltb x n) l) e in
    let less : y < n = ltb-true y n both.0 in
    rw (ne_eqb c y (λ q. omega arith)) (count-above n c l both.1 h)

-- in a list with no repeats the k-th entry has k entries before it
pub count-member : (l : List ℕ) (k : ℕ) → k < length l → 1 ≤ count (get_or l k 0) l
unfolding count
count-member [] k h = absurd (omega arith)
count-member (y ∷ l) zero h = rw (eq-eqb y y refl) (omega arith)
count-member (y ∷ l) (suc k) h = go (eqb (get_or l k 0) y) (count (get_or l k 0) l) (count-member l k (omega arith))
  where
    go : (b : Bool) (n : ℕ) → 1 ≤ n → 1 ≤ cond b (suc n) n
    go true n q = omega arith
    go false n q = q

pub count-tail : (l : List ℕ) (y c : ℕ) → count c (y ∷ l) ≤ 1 → count c l ≤ 1
unfolding count
count-tail l y c h = go (eqb c y) h
  where
    go : (b : Bool) → cond b (suc (count c l)) (count c l) ≤ 1 → count c l ≤ 1
    go true q = omega arith
    go false q = q

pub count_head : (l : List ℕ) (y : ℕ) → count y (y ∷ l) ≤ 1 → count y l ≡ 0
unfolding count
count_head l y h = let q : suc (count y l) ≤ 1 = rw (eq-eqb y y refl) at h in omega arith

-- ---- member, place

pub member-counted : (c : ℕ) (l : List ℕ) → 1 ≤ count c l → member c l ≡ true
unfolding count member
member-counted c [] h = absurd (omega arith)
member-counted c (y ∷ l) h = go (eqb c y) h (member-counted c l)
  where
    go : (b : Bool) → 1 ≤ cond b (suc (count c l)) (count c l) → (1 ≤ count c l → member c l ≡ true) → (b || member c l) ≡ true
    go true q r = refl
    go false q r = r q

pub member-uncounted : (c : ℕ) (l : List ℕ) → count c l ≡ 0 → member c l ≡ false
unfolding count member
member-uncounted c [] h = refl
member-uncounted c (y ∷ l) h = go (eqb c y) h (member-uncounted c l)
  where
    go : (b : Bool) → cond b (suc (count c l)) (count c l) ≡ 0 → (count c l ≡ 0 → member c l ≡ false) → (b || member c l) ≡ false
    go true q r = absurd (omega arith)
    go false q r = r q

pub count-present : (c : ℕ) (l : List ℕ) → member c l ≡ true → 1 ≤ count c l
unfolding count member
count-present c [] h = absurd (false≢true h)
count-present c (y ∷ l) h = go (eqb c y) h (count-present c l)
  where
    go : (b : Bool) → (b || member c l) ≡ true → (member c l ≡ true → 1 ≤ count c l) → 1 ≤ cond b (suc (count c l)) (count c l)
    go true q r = omega arith
    go false q r = r q

pub count-absent : (c : ℕ) (l : List ℕ) → member c l ≡ false → count c l ≡ 0
unfolding count member
count-absent c [] h = refl
count-absent c (y ∷ l) h = go (eqb c y) h (count-absent c l)
  where
    go : (b : Bool) → (b || member c l) ≡ false → (member c l ≡ false → count c l ≡ 0) → cond b (suc (count c l)) (count c l) ≡ 0
    go true q r = absurd (false≢true (sym q))
    go false q r = r q

pub member-nth : (l : List ℕ) (k : ℕ) → k < length l → member (get_or l k 0) l ≡ true
unfolding member
member-nth [] k h = absurd (omega arith)
member-nth (y ∷ l) zero h = rw (eq-eqb y y refl)
member-nth (y ∷ l) (suc k) h = rw (member-nth l k (omega arith)) (or-true (eqb (get_or l k 0) y))

pub place-nth : (l : List ℕ) (k : ℕ) → ((c : ℕ) → count c l ≤ 1) → k < length l → place (get_or l k 0) l ≡ k
unfolding place
place-nth [] k once h = absurd (omega arith)
place-nth (y ∷ l) zero once h = rw (eq-eqb y y refl)
place-nth (y ∷ l) (suc k) once h =
    let other : get_or l k 0 ≡ y → ⊥ = λ q. let z : 1 ≤ count y l = rw q at (count-member l k (omega arith)) in omega (arith, count_head l y (once y)) in
    rw (ne_eqb (get_or l k 0) y other) (ap suc (place-nth l k (λ c. count-tail l y c (once c)) (omega arith)))

-- an entry is the one at its place
pub nth-place : (l : List ℕ) (x : ℕ) → member x l ≡ true → get_or l (place x l) 0 ≡ x
unfolding member place
nth-place [] x h = absurd (false≢true h)
nth-place (y ∷ l) x h = go (eqb x y) (λ q. eqb-true x y q) refl (nth-place l x)
  where
    go : (b : Bool) → (b ≡ true → x ≡ y) → eqb x y ≡ b → (member x l ≡ true → get_or l (place x l) 0 ≡ x) → get_or (y ∷ l) (cond b 0 (suc (place x l))) 0 ≡ x
    go true q r s = sym (q refl)
    go false q r s = s (rw r at h)

-- an entry stands within the list
pub place-below : (l : List ℕ) (f : ℕ) → member f l ≡ true → place f l < length l
unfolding member place
place-below [] f h = absurd (false≢true h)
place-below (y ∷ l) f h = go (eqb f y) h (place-below l f)
  where
    go : (b : Bool) → (b || member f l) ≡ true → (member f l ≡ true → place f l < length l) → cond b 0 (suc (place f l)) < suc (length l)
    go true q r = omega arith
    go false q r = let z : place f l < length l = r q in omega arith

pub member-append : (c : ℕ) (k l : List ℕ) → member c (k ++ l) ≡ (member c k || member c l)
unfolding member
member-append c [] l = refl
member-append c (y ∷ k) l = rw (member-append c k l) (go (eqb c y))
  where
    go : (b : Bool) → (b || (member c k || member c l)) ≡ ((b || member c k) || member c l)
    go true = refl
    go false = refl

pub member-none : (x : ℕ) → member x [] ≡ false
unfolding member
member-none x = refl

pub member-cons : (x y : ℕ) (l : List ℕ) → member x (y ∷ l) ≡ (eqb x y || member x l)
unfolding member
member-cons x y l = refl

pub member-head : (y : ℕ) (l : List ℕ) → member y (y ∷ l) ≡ true
unfolding member
member-head y l = rw (eq-eqb y y refl)

pub member-tail : (x y : ℕ) (l : List ℕ) → member x l ≡ true → member x (y ∷ l) ≡ true
unfolding member
member-tail x y l h = rw (h, or-true (eqb x y))

pub member-one : (x y : ℕ) → member x (y ∷ []) ≡ eqb x y
unfolding member
member-one x y = or-false (eqb x y)

pub member-snoc : (x : ℕ) (l : List ℕ) (y : ℕ) → member x (l ++ (y ∷ [])) ≡ (member x l || eqb x y)
member-snoc x l y = member-append x l (y ∷ []) ∙ ap (λ b. member x l || b) (member-one x y)

-- of two lists, neither has it
pub member-front-none : (c : ℕ) (k l : List ℕ) → member c (k ++ l) ≡ false → member c k ≡ false
member-front-none c k l h = (or-none (member c k) (member c l) (sym (member-append c k l) ∙ h)).0

pub member-back-none : (c : ℕ) (k l : List ℕ) → member c (k ++ l) ≡ false → member c l ≡ false
member-back-none c k l h = (or-none (member c k) (member c l) (sym (member-append c k l) ∙ h)).1

-- one has it, and not the second
pub member-front : (c : ℕ) (k l : List ℕ) → member c (k ++ l) ≡ true → member c l ≡ false → member c k ≡ true
member-front c k l h q = or-first (member c k) (member c l) (sym (member-append c k l) ∙ h) q

-- ---- all

pub all_none : (p : ℕ → Bool) → all p [] ≡ true
unfolding all
all_none p = refl

pub all_cons : (p : ℕ → Bool) (y : ℕ) (l : List ℕ) → all p (y ∷ l) ≡ (p y && all p l)
unfolding all
all_cons p y l = refl

pub all_both : (p : ℕ → Bool) (k l : List ℕ) → all p (k ++ l) ≡ (all p k && all p l)
unfolding all
all_both p [] l = refl
all_both p (y ∷ k) l = rw (all_both p k l) (sym (and_assoc (p y) (all p k) (all p l)))

pub all_snoc : (p : ℕ → Bool) (l : List ℕ) (y : ℕ) → all p (l ++ (y ∷ [])) ≡ (all p l && p y)
unfolding all
all_snoc p l y = all_both p l (y ∷ []) ∙ ap (λ b. all p l && b) (and-true (p y))

-- a test that holds of all entries holds of one
pub all-at : (p : ℕ → Bool) (l : List ℕ) (c : ℕ) → all p l ≡ true → 1 ≤ count c l → p c ≡ true
unfolding all count
all-at p [] c a h = absurd (omega arith)
all-at p (y ∷ l) c a h = go (eqb c y) (λ q. eqb-true c y q) h (all-at p l c (and_both (p y) (all p l) a).1)
  where
    go : (b : Bool) → (b ≡ true → c ≡ y) → 1 ≤ cond b (suc (count c l)) (count c l) → (1 ≤ count c l → p c ≡ true) → p c ≡ true
    go true q r s = rw (q refl) (and_both (p y) (all p l) a).0
    go false q r s = s r

pub all-member : (p : ℕ → Bool) (l : List ℕ) (x : ℕ) → all p l ≡ true → member x l ≡ true → p x ≡ true
all-member p l x a h = all-at p l x a (count-present x l h)

-- a test that holds of whatever is listed holds of all entries
pub all-counted : (p : ℕ → Bool) (l : List ℕ) → ((c : ℕ) → 1 ≤ count c l → p c ≡ true) → all p l ≡ true
unfolding count all
all-counted p [] h = refl
all-counted p (y ∷ l) h = rw (h y (rw (eq-eqb y y refl) (omega arith))) (all-counted p l (λ c q. h c (more (eqb c y) (count c l) q)))
  where
    more : (b : Bool) (n : ℕ) → 1 ≤ n → 1 ≤ cond b (suc n) n
    more true n q = omega arith
    more false n q = q

-- what is below n is below any greater number
pub all-imply : (p q : ℕ → Bool) (l : List ℕ) → ((y : ℕ) → q y ≡ true → p y ≡ true) → all q l ≡ true → all p l ≡ true
unfolding all
all-imply p q [] h a = refl
all-imply p q (y ∷ l) h a =
    let both : (q y ≡ true) × (all q l ≡ true) = and_both (q y) (all q l) a in
    rw (h y both.0) (all-imply p q l h both.1)

pub all_map : (p q : ℕ → Bool) (h : ℕ → ℕ) (l : List ℕ) → ((y : ℕ) → q y ≡ true → p (h y) ≡ true) → all q l ≡ true → all p (map h l) ≡ true
unfolding all
all_map p q h [] f a = refl
all_map p q h (y ∷ l) f a =
    let both : (q y ≡ true) × (all q l ≡ true) = and_both (q y) (all q l) a in
    rw (f y both.0) (all_map p q h l f both.1)

pub all-weaken : (n k : ℕ) (l : List ℕ) → n ≤ k → all (λ x. ltb x n) l ≡ true → all (λ x. ltb x k) l ≡ true
unfolding all
all-weaken n k [] h a = refl
all-weaken n k (y ∷ l) h a =
    let both : (ltb y n ≡ true) × (all (λ x. ltb x n) l ≡ true) = and_both (ltb y n) (all (λ x. ltb x n) l) a in
    let less : y < n = ltb-true y n both.0 in
    rw (lt-ltb y k (omega arith)) (all-weaken n k l h both.1)

pub all_append : (p : ℕ → Bool) (k l : List ℕ) → all p k ≡ true → all p l ≡ true → all p (k ++ l) ≡ true
unfolding all
all_append p [] l a b = b
all_append p (y ∷ k) l a b = let both : (p y ≡ true) × (all p k ≡ true) = and_both (p y) (all p k) a in rw both.0 (all_append p k l both.1 b)

pub all-joined : (p q : ℕ → Bool) (g : ℕ → List ℕ) (l : List ℕ) → ((y : ℕ) → q y ≡ true → all p (g y) ≡ true) → all q l ≡ true → all p (joined g l) ≡ true
unfolding all joined
all-joined p q g [] h a = refl
all-joined p q g (y ∷ l) h a =
    let both : (q y ≡ true) × (all q l ≡ true) = and_both (q y) (all q l) a in
    all_append p (g y) (joined g l) (h y both.0) (all-joined p q g l h both.1)

pub all_one : (p : ℕ → Bool) (y : ℕ) → p y ≡ true → all p (y ∷ []) ≡ true
unfolding all
all_one p y h = rw h

pub all_two : (p : ℕ → Bool) (y z : ℕ) → p y ≡ true → p z ≡ true → all p (y ∷ z ∷ []) ≡ true
unfolding all
all_two p y z h k = rw (h, k)

pub below-nth : (n : ℕ) (l : List ℕ) (k : ℕ) → all (λ x. ltb x n) l ≡ true → k < length l → get_or l k 0 < n
unfolding all
below-nth n [] k e h = absurd (omega arith)
below-nth n (y ∷ l) zero e h = ltb-true y n (and_both (ltb y n) (all (λ x. ltb x n) l) e).0
below-nth n (y ∷ l) (suc k) e h = below-nth n l k (and_both (ltb y n) (all (λ x. ltb x n) l) e).1 (omega arith)

-- ---- run

pub length_run : (u n : ℕ) → length (run u n) ≡ n
unfolding run
length_run u zero = refl
length_run u (suc n) = rw (length-append (run u n) ((u + n) ∷ []), length_run u n) (omega arith)

pub all-run : (u n : ℕ) → all (λ x. ltb x (u + n)) (run u n) ≡ true
unfolding run
all-run u zero = unfold all in refl
all-run u (suc n) =
    all_append (λ x. ltb x (u + suc n)) (run u n) ((u + n) ∷ [])
    (all-weaken (u + n) (u + suc n) (run u n) (omega arith) (all-run u n)) (all_one (λ x. ltb x (u + suc n)) (u + n) (lt-ltb (u + n) (u + suc n) (omega arith)))

-- of the numbers u, u + 1, .., u + n - 1 each stands once, and no other
pub count-run-after : (u n c : ℕ) → u + n ≤ c → count c (run u n) ≡ 0
unfolding run count
count-run-after u zero c h = refl
count-run-after u (suc n) c h = rw (count-snoc c (run u n) (u + n), ne_eqb c (u + n) (λ q. omega arith)) (omega (arith, count-run-after u n c (omega arith)))

pub count-run-before : (u n c : ℕ) → c < u → count c (run u n) ≡ 0
unfolding run count
count-run-before u zero c h = refl
count-run-before u (suc n) c h = rw (count-snoc c (run u n) (u + n), ne_eqb c (u + n) (λ q. omega arith)) (omega (arith, count-run-before u n c h))

pub count-run-in : (u n c : ℕ) → u ≤ c → c < u + n → count c (run u n) ≡ 1
unfolding run count
count-run-in u zero c h k = absurd (omega arith)
count-run-in u (suc n) c h k =
    elim (dec_lt c (u + n)) [
      | yes l ↦ rw (count-snoc c (run u n) (u + n), ne_eqb c (u + n) (λ q. omega arith)) (omega (arith, count-run-in u n c h l))
      | no g ↦ rw (count-snoc c (run u n) (u + n), eq-eqb c (u + n) (omega arith)) (omega (arith, count-run-after u n c (omega arith)))
    ]

-- ---- count_if

pub count_if-append : (p : ℕ → Bool) (k l : List ℕ) → count_if p (k ++ l) ≡ count_if p k + count_if p l
unfolding count_if
count_if-append p [] l = sym (zero-add _)
count_if-append p (y ∷ k) l = go (p y) (count_if p (k ++ l)) (count_if p k) (count_if p l) (count_if-append p k l)
  where
    go : (b : Bool) (i j r : ℕ) → i ≡ j + r → cond b (suc i) i ≡ cond b (suc j) j + r
    go true i j r h = omega arith
    go false i j r h = h

pub count_if-cons : (p : ℕ → Bool) (y : ℕ) (l : List ℕ) → count_if p (y ∷ l) ≡ cond (p y) 1 0 + count_if p l
unfolding count_if
count_if-cons p y l = go (p y) (count_if p l)
  where
    go : (b : Bool) (n : ℕ) → cond b (suc n) n ≡ cond b 1 0 + n
    go true n = omega arith
    go false n = sym (zero-add n)

pub count_if-snoc : (p : ℕ → Bool) (l : List ℕ) (y : ℕ) → count_if p (l ++ (y ∷ [])) ≡ count_if p l + cond (p y) 1 0
unfolding count_if
count_if-snoc p [] y = sym (zero-add _)
count_if-snoc p (z ∷ l) y = go (p z) (count_if p (l ++ (y ∷ []))) (count_if p l) (cond (p y) 1 0) (count_if-snoc p l y)
  where
    go : (b : Bool) (i j k : ℕ) → i ≡ j + k → cond b (suc i) i ≡ cond b (suc j) j + k
    go true i j k h = omega arith
    go false i j k h = h

-- one more member, which is not there yet
pub count_if-member : (y : ℕ) (a l : List ℕ) → member y a ≡ false → count_if (λ f. member f (y ∷ a)) l ≡ count y l + count_if (λ f. member f a) l
unfolding count_if count member
count_if-member y a [] h = refl
count_if-member y a (f ∷ l) h = go (eqb f y) refl (eqb y f) (λ q. eqb-true f y q) (λ q. eqb-true y f q) refl (member f a) refl (count y l) (count_if (λ i. member i a) l) (count_if-member y a l h)
  where
    go : (b : Bool) → eqb f y ≡ b → (c : Bool) → (b ≡ true → f ≡ y) → (c ≡ true → y ≡ f) → eqb y f ≡ c → (d : Bool) → member f a ≡ d → (p q : ℕ) → count_if (λ i. eqb i y || member i a) l ≡ p + q
        → cond (b || d) (suc (count_if (λ i. eqb i y || member i a) l)) (count_if (λ i. eqb i y || member i a) l) ≡ cond c (suc p) p + cond d (suc q) q
    go true qb true fb fc qc true qd p q ih = absurd (false≢true (sym h ∙ ap (λ i. member i a) (sym (fb refl)) ∙ qd))
    go true qb true fb fc qc false qd p q ih = omega arith
    go true qb false fb fc qc d qd p q ih = absurd (eqb-false y f qc (sym (fb refl)))
    go false qb true fb fc qc d qd p q ih = absurd (eqb-false f y qb (sym (fc refl)))
    go false qb false fb fc qc true qd p q ih = omega arith
    go false qb false fb fc qc false qd p q ih = ih

pub count_if-none : (l : List ℕ) → count_if (λ f. member f []) l ≡ 0
unfolding count_if member
count_if-none [] = refl
count_if-none (f ∷ l) = count_if-none l

pub double-count : (p : ℕ → Bool) (n : ℕ) (a l : List ℕ) → ((c : ℕ) → c < n → count c l ≡ cond (p c) 1 0) → all (λ i. ltb i n) a ≡ true → ((c : ℕ) → count c a ≤ 1)
    → count_if (λ f. member f a) l ≡ count_if p a
unfolding all count_if
double-count p n [] l h b once = count_if-none l
double-count p n (y ∷ a) l h b once =
    let both : (ltb y n ≡ true) × (all (λ i. ltb i n) a ≡ true) = and_both _ _ b in
    let fresh : member y a ≡ false = member-uncounted y a (count_head a y (once y)) in
    count_if-member y a l fresh
    ∙ ap (λ i. i + count_if (λ f. member f a) l) (h y (ltb-true y n both.0))
    ∙ ap (λ i. cond (p y) 1 0 + i) (double-count p n a l h both.1 (λ c. count-tail a y c (once c)))
    ∙ sym (count_if-cons p y a)

-- where all the entries' keys pass a bound, so does a key that some entry has
pub bound_of : (key h : ℕ → ℕ) (limit l : ℕ) (a : List ℕ) → all (λ f. leb (h (key f)) limit) a ≡ true → 1 ≤ count_if (λ f. eqb (key f) l) a → h l ≤ limit
unfolding all count_if
bound_of key h limit l [] b k = absurd (omega arith)
bound_of key h limit l (y ∷ a) b k = go (eqb (key y) l) (λ q. eqb-true (key y) l q) k (bound_of key h limit l a both.1)
  where
    both : (leb (h (key y)) limit ≡ true) × (all (λ f. leb (h (key f)) limit) a ≡ true)
    both = and_both (leb (h (key y)) limit) (all (λ f. leb (h (key f)) limit) a) b

    go : (c : Bool) → (c ≡ true → key y ≡ l) → 1 ≤ cond c (suc (count_if (λ f. eqb (key f) l) a)) (count_if (λ f. eqb (key f) l) a)
        → (1 ≤ count_if (λ f. eqb (key f) l) a → h l ≤ limit) → h l ≤ limit
    go true q r s = subst (λ i. h i ≤ limit) (q refl) (leb-true (h (key y)) limit both.0)
    go false q r s = s r

-- ---- what is made of a list entry by entry is the same where each entry gives the same

module _ {A R : Type 0} (of : (ℕ → A) → List ℕ → R) (step : A → R → R) (start : R) (none : (f : ℕ → A) → of f [] ≡ start)
    (more : (f : ℕ → A) (y : ℕ) (l : List ℕ) → of f (y ∷ l) ≡ step (f y) (of f l)) where
  pub fold-in : (f g : ℕ → A) (l : List ℕ) → ((y : ℕ) → member y l ≡ true → f y ≡ g y) → of f l ≡ of g l
  fold-in f g [] h = rw (none f, none g)
  fold-in f g (y ∷ l) h = rw (more f y l, more g y l, h y (member-head y l), fold-in f g l (λ x q. h x (member-tail x y l q)))

  -- where each entry passes a test
  pub fold_same : (f g : ℕ → A) (p : ℕ → Bool) (l : List ℕ) → ((y : ℕ) → p y ≡ true → f y ≡ g y) → all p l ≡ true → of f l ≡ of g l
  fold_same f g p l h a = fold-in f g l (λ y q. h y (all-member p l y a q))

-- ---- joined

module _ {A : Type 0} where
  pub joined-none : (f : ℕ → List A) → joined f [] ≡ []
  unfolding joined
  joined-none f = refl

  pub joined-cons : (f : ℕ → List A) (y : ℕ) (l : List ℕ) → joined f (y ∷ l) ≡ f y ++ joined f l
  unfolding joined
  joined-cons f y l = refl

  pub joined-append : (f : ℕ → List A) (k l : List ℕ) → joined f (k ++ l) ≡ joined f k ++ joined f l
  unfolding joined
  joined-append f [] l = refl
  joined-append f (y ∷ k) l = rw (joined-append f k l) (sym (append_assoc (f y) (joined f k) (joined f l)))

  pub joined_snoc : (f : ℕ → List A) (l : List ℕ) (y : ℕ) → joined f (l ++ (y ∷ [])) ≡ joined f l ++ f y
  unfolding joined
  joined_snoc f [] y = append-nil (f y)
  joined_snoc f (z ∷ l) y = rw (joined_snoc f l y) (sym (append_assoc (f z) (joined f l) (f y)))

module _ {A : Type 0} where
  -- nothing from any entry is nothing in all
  pub joined-nothing : (f : ℕ → List A) (p : ℕ → Bool) (l : List ℕ) → ((y : ℕ) → p y ≡ true → f y ≡ []) → all p l ≡ true → joined f l ≡ []
  unfolding joined all
  joined-nothing f p [] h a = refl
  joined-nothing f p (y ∷ l) h a =
      let both : (p y ≡ true) × (all p l ≡ true) = and_both (p y) (all p l) a in
      rw (h y both.0, joined-nothing f p l h both.1)

  -- the same from each entry is the same in all
  pub joined_same : (f g : ℕ → List A) (p : ℕ → Bool) (l : List ℕ) → ((y : ℕ) → p y ≡ true → f y ≡ g y) → all p l ≡ true → joined f l ≡ joined g l
  joined_same = fold_same joined ◌++◌ [] joined-none joined-cons

-- ---- meet, meets: each entry at its first meeting

pub meets-none : (s : List ℕ) → meets s [] ≡ s
unfolding meets
meets-none s = refl

pub meets-append : (s k l : List ℕ) → meets s (k ++ l) ≡ meets (meets s k) l
unfolding meets
meets-append s [] l = refl
meets-append s (y ∷ k) l = meets-append (meet s y) k l

pub meets-snoc : (s l : List ℕ) (y : ℕ) → meets s (l ++ (y ∷ [])) ≡ meet (meets s l) y
unfolding meets
meets-snoc s [] y = refl
meets-snoc s (z ∷ l) y = meets-snoc (meet s z) l y

-- an entry that was met, and one that was not
pub meet-old : (s : List ℕ) (y : ℕ) → member y s ≡ true → meet s y ≡ s
unfolding meet
meet-old s y h = rw h

pub meet-new : (s : List ℕ) (y : ℕ) → member y s ≡ false → meet s y ≡ s ++ (y ∷ [])
unfolding meet
meet-new s y h = rw h

pub member-meet : (x : ℕ) (s : List ℕ) (y : ℕ) → member x (meet s y) ≡ (member x s || eqb x y)
member-meet x s y = by (member y s) refl
  where
    found : (b c : Bool) → (c ≡ true → b ≡ true) → b ≡ (b || c)
    found true c h = refl
    found false true h = absurd (false≢true (h refl))
    found false false h = refl

    one : (b : Bool) → (b || (eqb x y || false)) ≡ (b || eqb x y)
    one true = refl
    one false = or-false (eqb x y)

    by : (b : Bool) → member y s ≡ b → member x (meet s y) ≡ (member x s || eqb x y)
    by true q = rw (meet-old s y q) (found (member x s) (eqb x y) (λ r. rw (eqb-true x y r) q))
    by false q = rw (meet-new s y q, member-append x s (y ∷ [])) (unfold member in one (member x s))

pub member-meets : (x : ℕ) (s l : List ℕ) → member x (meets s l) ≡ (member x s || member x l)
unfolding meets member
member-meets x s [] = sym (or-false (member x s))
member-meets x s (y ∷ l) = rw (member-meets x (meet s y) l, member-meet x s y) (go (member x s))
  where
    go : (b : Bool) → ((b || eqb x y) || member x l) ≡ (b || (eqb x y || member x l))
    go true = refl
    go false = refl

-- a list of first meetings repeats nothing
pub count-meet : (s : List ℕ) (y : ℕ) → ((c : ℕ) → count c s ≤ 1) → (c : ℕ) → count c (meet s y) ≤ 1
count-meet s y once c = by (member y s) refl
  where
    step : (b : Bool) → eqb c y ≡ b → count y s ≡ 0 → count c s + cond b 1 0 ≤ 1
    step true q h = let same : c ≡ y = eqb-true c y q in rw same (omega arith)
    step false q h = omega (arith, once c)

    by : (b : Bool) → member y s ≡ b → count c (meet s y) ≤ 1
    by true q = rw (meet-old s y q) (once c)
    by false q = rw (meet-new s y q, count-snoc c s y) (step (eqb c y) refl (count-absent y s q))

pub count_meets : (s l : List ℕ) → ((c : ℕ) → count c s ≤ 1) → (c : ℕ) → count c (meets s l) ≤ 1
unfolding meets
count_meets s [] once c = once c
count_meets s (y ∷ l) once c = count_meets (meet s y) l (count-meet s y once) c

pub firsts-none : firsts [] ≡ []
firsts-none = meets-none []

pub firsts-snoc : (l : List ℕ) (y : ℕ) → firsts (l ++ (y ∷ [])) ≡ meet (firsts l) y
firsts-snoc l y = meets-snoc [] l y

pub firsts-append : (k l : List ℕ) → firsts (k ++ l) ≡ meets (firsts k) l
firsts-append k l = meets-append [] k l

pub count-firsts : (l : List ℕ) (c : ℕ) → count c (firsts l) ≤ 1
count-firsts l = count_meets [] l (λ c. unfold count in omega arith)

pub member-firsts : (x : ℕ) (l : List ℕ) → member x (firsts l) ≡ member x l
member-firsts x l = rw (member-meets x [] l) (unfold member in refl)

-- what holds of all entries holds of all first meetings
pub all_firsts : (p : ℕ → Bool) (l : List ℕ) → all p l ≡ true → all p (firsts l) ≡ true
all_firsts p l a = all-counted p (firsts l) (λ c h. all-at p l c a (count-present c l (sym (member-firsts c l) ∙ member-counted c (firsts l) h)))

-- in a list without repeats an entry is counted once
pub count-once : (c : ℕ) (l : List ℕ) → count c l ≤ 1 → count c l ≡ bit (member c l)
count-once c l h = by (member c l) refl
  where
    by : (b : Bool) → member c l ≡ b → count c l ≡ bit b
    by true q = let there : 1 ≤ count c l = count-present c l q in omega arith
    by false q = count-absent c l q

-- ---- two lists in which every id stands equally often are equally long

-- a list without the first x
unfoldable pub less_one : ℕ → List ℕ → List ℕ
less_one x [] = []
less_one x (y ∷ l) = cond (eqb x y) l (y ∷ less_one x l)

pub length-less : (x : ℕ) (l : List ℕ) → 1 ≤ count x l → suc (length (less_one x l)) ≡ length l
unfolding less_one count
length-less x [] h = absurd (omega arith)
length-less x (y ∷ l) h = by (eqb x y) h (length-less x l)
  where
    by : (b : Bool) → 1 ≤ cond b (suc (count x l)) (count x l) → (1 ≤ count x l → suc (length (less_one x l)) ≡ length l) → suc (length (cond b l (y ∷ less_one x l))) ≡ suc (length l)
    by true q f = refl
    by false q f = ap suc (f q)

pub count_less : (x c : ℕ) (l : List ℕ) → 1 ≤ count x l → cond (eqb c x) 1 0 + count c (less_one x l) ≡ count c l
unfolding less_one count
count_less x c [] h = absurd (omega arith)
count_less x c (y ∷ l) h = by (eqb x y) refl h (count_less x c l)
  where
    swap : (b c : Bool) (i j : ℕ) → cond b 1 0 + i ≡ j → cond b 1 0 + cond c (suc i) i ≡ cond c (suc j) j
    swap b true i j h = omega arith
    swap b false i j h = h

    front : (b : Bool) (i : ℕ) → cond b 1 0 + i ≡ cond b (suc i) i
    front true i = omega arith
    front false i = zero-add i

    by : (b : Bool) → eqb x y ≡ b → 1 ≤ cond b (suc (count x l)) (count x l) → (1 ≤ count x l → cond (eqb c x) 1 0 + count c (less_one x l) ≡ count c l)
        → cond (eqb c x) 1 0 + count c (cond b l (y ∷ less_one x l)) ≡ cond (eqb c y) (suc (count c l)) (count c l)
    by true q r f = rw (eqb-true x y q) (front (eqb c y) (count c l))
    by false q r f = swap (eqb c x) (eqb c y) (count c (less_one x l)) (count c l) (f r)

pub same_length : (k l : List ℕ) → ((c : ℕ) → count c k ≡ count c l) → length k ≡ length l
same_length [] [] h = refl
same_length [] (y ∷ l) h = let z : 1 ≤ count y [] = rw (h y, count-cons y y l, eq-eqb y y refl) (omega arith) in absurd (omega (arith, count_none y))
same_length (y ∷ k) l h =
    let there : 1 ≤ count y l = rw (← h y, count-cons y y k, eq-eqb y y refl) (omega arith) in
    ap suc (same_length k (less_one y l) (λ c. less c there)) ∙ length-less y l there
  where
    less : (c : ℕ) → 1 ≤ count y l → count c k ≡ count c (less_one y l)
    less c there =
        let both : cond (eqb c y) 1 0 + count c k ≡ cond (eqb c y) 1 0 + count c (less_one y l) = sym (count-cons c y k) ∙ h c ∙ sym (count_less y c l there) in
        omega arith

-- one id more
pub length_more : (n : ℕ) (k l : List ℕ) → ((c : ℕ) → count c l ≡ count c k + bit (eqb c n)) → length l ≡ length k + 1
length_more n k l h = same_length l (n ∷ k) (λ c. h c ∙ rw (count-cons c n k) (go (eqb c n) (count c k))) ∙ omega arith
  where
    go : (b : Bool) (i : ℕ) → i + bit b ≡ cond b 1 0 + i
    go true i = omega arith
    go false i = omega arith
