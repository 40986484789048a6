-- Laws of tests: conjunctions, optional ids, refusals and rows of tests. Assumes nothing.
use Rattle.std.specs.Prelude.{ℕ, zero, suc, ◌+◌, ◌≤◌, ◌<◌, ◌≡◌, refl, Bool, true, false, not, cond, ◌&&◌, ◌||◌, List, [], ◌∷◌, ◌++◌, get_or}
use Rattle.std.proofs.Common.{arith, add-one, sym, ap, ◌∙◌, subst, true≢false, ltb-true, eqb-true, lt-ltb, eq-eqb}
use Rattle.std.proofs.Math.Decide.{dec_lt}
use Rattle.std.proofs.lemmas.Bool.{false≢true}
use Rattle.std.proofs.Math.Option.{Option, none, some}
use Rattle.geom_lines_planes.specs.Refuse.{◌unless◌, ◌then◌, answer}
use Rattle.meaning.specs.Lists.{all_below, every, same, the}
use Rattle.meaning.specs.Refuse.{first_refusal, first_of, ◌if◌}
use Rattle.meaning.specs.Formed.{below_maybe, bit}

-- ---- conjunctions

pub and_both : (a b : Bool) → (a && b) ≡ true → (a ≡ true) × (b ≡ true)
and_both true b e = (refl, e)
and_both false b e = absurd (false≢true e)

-- a first test that fails shuts a chain, and one that holds opens it
pub shut : (a b : Bool) → a ≡ false → false ≡ (a && b)
shut true b e = sym (absurd (true≢false e))
shut false b e = refl

pub opened : (a b x : Bool) → a ≡ true → x ≡ b → x ≡ (a && b)
opened true b x e f = f
opened false b x e f = absurd (false≢true e)

pub and-true : (a : Bool) → (a && true) ≡ a
and-true true = refl
and-true false = refl

pub and-false : (a : Bool) → (a && false) ≡ false
and-false true = refl
and-false false = refl

pub and_assoc : (a b c : Bool) → ((a && b) && c) ≡ (a && (b && c))
and_assoc true b c = refl
and_assoc false b c = refl

pub or-false : (a : Bool) → (a || false) ≡ a
or-false true = refl
or-false false = refl

pub or-none : (a b : Bool) → (a || b) ≡ false → (a ≡ false) × (b ≡ false)
or-none true b e = absurd (false≢true (sym e))
or-none false b e = (refl, e)

pub or-first : (a b : Bool) → (a || b) ≡ true → b ≡ false → a ≡ true
or-first true b e h = refl
or-first false b e h = absurd (false≢true (sym h ∙ e))

-- two tests of which each passes with the other
pub both_ways : (a b : Bool) → (a ≡ true → b ≡ true) → (b ≡ true → a ≡ true) → a ≡ b
both_ways true b f g = sym (f refl)
both_ways false true f g = g refl
both_ways false false f g = refl

pub bit-true : (b : Bool) → 1 ≤ bit b → b ≡ true
bit-true true q = refl
bit-true false q = absurd (omega arith)

-- each test of a list that passes
pub every-at : (l : List Bool) → every l ≡ true → (k : ℕ) → get_or l k true ≡ true
unfolding every
every-at [] h k = refl
every-at (b ∷ l) h zero = (and_both b (every l) h).0
every-at (b ∷ l) h (suc k) = every-at l (and_both b (every l) h).1 k

pub all_below-none : (p : ℕ → Bool) → all_below p 0 ≡ true
unfolding all_below
all_below-none p = refl

pub all_below-suc : (p : ℕ → Bool) (n : ℕ) → all_below p (suc n) ≡ (all_below p n && p n)
unfolding all_below
all_below-suc p n = refl

pub all_below-at : (p : ℕ → Bool) (n k : ℕ) → all_below p n ≡ true → k < n → p k ≡ true
unfolding all_below
all_below-at p zero k e h = absurd (omega arith)
all_below-at p (suc n) k e h =
    let both : (all_below p n ≡ true) × (p n ≡ true) = and_both (all_below p n) (p n) e in
    elim (dec_lt k n) [
      | yes l ↦ all_below-at p n k both.0 l
      | no g ↦ let q : n ≡ k = omega arith in subst (λ j. p j ≡ true) q both.1
    ]

-- and the other way: from each to all
pub every-cons : (b : Bool) (l : List Bool) → b ≡ true → every l ≡ true → every (b ∷ l) ≡ true
unfolding every
every-cons b l h k = rw (h, k)

pub every-none : every [] ≡ true
unfolding every
every-none = refl

pub all_below-all : (p : ℕ → Bool) (n : ℕ) → ((k : ℕ) → k < n → p k ≡ true) → all_below p n ≡ true
unfolding all_below
all_below-all p zero h = refl
all_below-all p (suc n) h = rw (all_below-all p n (λ k q. h k (omega arith)), h n (omega arith))

pub all_below-more : (p : ℕ → Bool) (i : ℕ) → all_below p (i + 1) ≡ (all_below p i && p i)
unfolding all_below
all_below-more p i = ap (all_below p) (add-one i)

-- a turn of a loop that tests one after the other
pub all_below-turn : (p : ℕ → Bool) (i : ℕ) (ok x : Bool) → ok ≡ all_below p i → x ≡ p i → (ok && x) ≡ all_below p (i + 1)
all_below-turn p i ok x e f = cc (all_below-more p i)

-- ---- optional ids

pub same_refl : (a : Option ℕ) → same a a ≡ true
same_refl none = refl
same_refl (some x) = eq-eqb x x refl

pub same_true : (a b : Option ℕ) → same a b ≡ true → a ≡ b
same_true none none h = refl
same_true none (some y) h = absurd (false≢true h)
same_true (some x) none h = absurd (false≢true h)
same_true (some x) (some y) h = ap some (eqb-true x y h)

pub maybe-weaken : (n k : ℕ) (o : Option ℕ) → n ≤ k → below_maybe n o ≡ true → below_maybe k o ≡ true
maybe-weaken n k none h a = refl
maybe-weaken n k (some i) h a = let less : i < n = ltb-true i n a in lt-ltb i k (omega arith)

-- ---- refusals: `a then b`, `n unless t`

pub then-zero : (a b : ℕ) → (a then b) ≡ 0 → (a ≡ 0) × (b ≡ 0)
then-zero zero b h = (refl, h)
then-zero (suc a) b h = absurd (omega arith)

pub then-none : (a : ℕ) → (a then 0) ≡ (0 then a)
then-none zero = refl
then-none (suc a) = refl

pub then-assoc : (a b c : ℕ) → ((a then b) then c) ≡ (a then (b then c))
then-assoc zero b c = refl
then-assoc (suc a) b c = refl

pub unless_not : (n : ℕ) (b : Bool) → n unless not b ≡ n if b
unless_not n true = refl
unless_not n false = refl

pub unless-zero : (n : ℕ) (b : Bool) → (suc n unless b) ≡ 0 → b ≡ true
unless-zero n true h = refl
unless-zero n false h = absurd (omega arith)

-- an optional id that is not none is its id
pub the-given : (b : Bool) (i : ℕ) → not b ≡ true → i ≡ the (cond b none (some i))
the-given true i e = absurd (false≢true e)
the-given false i e = refl

-- an enum's answer: a number that is not 0 is refused
pub refused-answer : {B A : Type 0} (is : B → A) (refused : ℕ → A) (n : ℕ) (v : B) → (n ≡ 0 → ⊥) → refused n ≡ answer is refused n v
refused-answer is refused zero v e = absurd (e refl)
refused-answer is refused (suc n) v e = refl

-- ---- rows of tests

-- where a list of tests has no refusal, none of them has
pub none-refused : (l : List ℕ) → first_refusal l ≡ 0 → (k : ℕ) → get_or l k 0 ≡ 0
unfolding first_refusal
none-refused [] h k = refl
none-refused (n ∷ l) h zero = (then-zero n (first_refusal l) h).0
none-refused (n ∷ l) h (suc k) = none-refused l (then-zero n (first_refusal l) h).1 k

pub first_of-none : (f : ℕ → ℕ) → first_of f [] ≡ 0
unfolding first_of
first_of-none f = refl

pub first_of-append : (f : ℕ → ℕ) (k l : List ℕ) → first_of f (k ++ l) ≡ (first_of f k then first_of f l)
unfolding first_of
first_of-append f [] l = refl
first_of-append f (y ∷ k) l = rw (first_of-append f k l) (sym (then-assoc (f y) (first_of f k) (first_of f l)))

pub first_of-snoc : (f : ℕ → ℕ) (l : List ℕ) (y : ℕ) → first_of f (l ++ (y ∷ [])) ≡ (first_of f l then f y)
unfolding first_of
first_of-snoc f [] y = then-none (f y)
first_of-snoc f (z ∷ l) y = rw (first_of-snoc f l y) (sym (then-assoc (f z) (first_of f l) (f y)))
