-- The least of floats is one of them and no more than any, and the greatest is one of them and no less; where one is a NaN, so are both. Assumes nothing.
use Rattle.std.specs.Prelude.{◌≡◌, refl, ◌⊎◌, Bool, true, false, not, cond, T, Float}
use Rattle.std.proofs.Common.{sym, subst, inl, inr, T_not}
use Rattle.std.specs.Float.{nan, inf, fin}
use Rattle.std.specs.Float.Ieee.{is_nan, le}
use Rattle.float_order.specs.Extremes.{least_f, greatest_f}
use Rattle.interval_arithmetic.specs.Ops.{least4, greatest4}
use Rattle.float_values.specs.Laws.Order.{le-nums}
use Rattle.float_values.specs.Laws.Adjacent.{ninf-le, le-pinf}
use Rattle.interval_narrowing.specs.Laws.Order.{refl-le, trans_le, total-le}
use Rattle.interval_narrowing.specs.Laws.Ends.{bound, bound-num, bound-refl, bound-le}

pub nan-or-num : (r : Float) → T (is_nan r) ⊎ T (not (is_nan r))
nan-or-num r = go (is_nan r)
  where
    go : (t : Bool) → T t ⊎ T (not t)
    go true = inl tt
    go false = inr tt

-- one of four
abbrev pub Any : (Float → Type 0) → Float → Float → Float → Float → Type 0
Any P a b c d = (P a ⊎ P b) ⊎ (P c ⊎ P d)

-- ---- of two: what holds of the one that the tests take, and of a NaN where both fail
module _ (a b : Float) (P : Float → Type 0) where
  chosen : (p q : Bool) → (T p → P a) → (T q → P b) → (T (not p) → T (not q) → P nan) → P (cond p a (cond q b nan))
  chosen true q h k n = h tt
  chosen false true h k n = k tt
  chosen false false h k n = n tt tt

  -- both fail only where one is a NaN
  fail : ((T (is_nan a) ⊎ T (is_nan b)) → P nan) → T (not (le a b)) → T (not (le b a)) → P nan
  fail h n m = elim (nan-or-num a) [
    | inl i ↦ h (inl i)
    | inr i ↦ elim (nan-or-num b) [
      | inl j ↦ h (inr j)
      | inr j ↦ elim (total-le a b i j) [ inl l ↦ absurd (T_not (le a b) n l) | inr l ↦ absurd (T_not (le b a) m l) ]
    ]
  ]

  least-is : (T (le a b) → P a) → (T (le b a) → P b) → ((T (is_nan a) ⊎ T (is_nan b)) → P nan) → P (least_f a b)
  least-is h k n = chosen (le a b) (le b a) h k (fail n)

  greatest-is : (T (le b a) → P a) → (T (le a b) → P b) → ((T (is_nan a) ⊎ T (is_nan b)) → P nan) → P (greatest_f a b)
  greatest-is h k n = chosen (le b a) (le a b) h k (λ i j. fail n j i)

-- ---- as bounds, a NaN the infinity of its side
nan-bound : (s : Bool) (r : Float) → T (is_nan r) → bound s nan ≡ bound s r
unfolding is_nan
nan-bound s nan h = refl
nan-bound s (inf t) h = absurd h
nan-bound s (fin t m e) h = absurd h

-- the bound of a NaN is that of the one that is a NaN
either : (s : Bool) (a b : Float) → T (is_nan a) ⊎ T (is_nan b) → (Q : Float → Type 0) → Q (bound s a) → Q (bound s b) → Q (bound s nan)
either s a b n Q h k = elim n [ inl i ↦ subst Q (sym (nan-bound s a i)) h | inr i ↦ subst Q (sym (nan-bound s b i)) k ]

ninf-bound : (r : Float) → T (le (bound true nan) (bound true r))
unfolding is_nan
ninf-bound r = ninf-le (bound true r) (bound-num true r)

pinf-bound : (r : Float) → T (le (bound false r) (bound false nan))
unfolding is_nan
pinf-bound r = le-pinf (bound false r) (bound-num false r)

module _ (a b z : Float) where
  low_of : T (le z (bound true a)) → T (le z (bound true b)) → T (le z (bound true (least_f a b)))
  low_of h k = least-is a b (λ r. T (le z (bound true r))) (λ _. h) (λ _. k) (λ n. either true a b n (λ r. T (le z r)) h k)

  high-of : T (le (bound false a) z) → T (le (bound false b) z) → T (le (bound false (greatest_f a b)) z)
  high-of h k = greatest-is a b (λ r. T (le (bound false r) z)) (λ _. h) (λ _. k) (λ n. either false a b n (λ r. T (le r z)) h k)

  under : T (le (bound true a) z) ⊎ T (le (bound true b) z) → T (le (bound true (least_f a b)) z)
  under h = elim h [
    | inl k ↦ trans_le (bound true (least_f a b)) (bound true a) z (least-is a b (λ r. T (le (bound true r) (bound true a))) (λ _. bound-refl true a) (bound-le true b a) (λ _. ninf-bound a)) k
    | inr k ↦ trans_le (bound true (least_f a b)) (bound true b) z (least-is a b (λ r. T (le (bound true r) (bound true b))) (bound-le true a b) (λ _. bound-refl true b) (λ _. ninf-bound b)) k
  ]

  over : T (le z (bound false a)) ⊎ T (le z (bound false b)) → T (le z (bound false (greatest_f a b)))
  over h = elim h [
    | inl k ↦ trans_le z (bound false a) (bound false (greatest_f a b)) k (greatest-is a b (λ r. T (le (bound false a) (bound false r))) (λ _. bound-refl false a) (bound-le false a b) (λ _. pinf-bound a))
    | inr k ↦ trans_le z (bound false b) (bound false (greatest_f a b)) k (greatest-is a b (λ r. T (le (bound false b) (bound false r))) (bound-le false b a) (λ _. bound-refl false b) (λ _. pinf-bound b))
  ]

module _ (a b c d z : Float) where
  pub least4-under : Any (λ r. T (le (bound true r) z)) a b c d → T (le (bound true (least4 a b c d)) z)
  least4-under h = under (least_f a b) (least_f c d) z (elim h [ inl k ↦ inl (under a b z k) | inr k ↦ inr (under c d z k) ])

  pub greatest4-over : Any (λ r. T (le z (bound false r))) a b c d → T (le z (bound false (greatest4 a b c d)))
  greatest4-over h = over (greatest_f a b) (greatest_f c d) z (elim h [ inl k ↦ inl (over a b z k) | inr k ↦ inr (over c d z k) ])

  pub least4-of : T (le z (bound true a)) → T (le z (bound true b)) → T (le z (bound true c)) → T (le z (bound true d)) → T (le z (bound true (least4 a b c d)))
  least4-of h i j k = low_of (least_f a b) (least_f c d) z (low_of a b z h i) (low_of c d z j k)

  pub greatest4-of : T (le (bound false a) z) → T (le (bound false b) z) → T (le (bound false c) z) → T (le (bound false d) z) → T (le (bound false (greatest4 a b c d)) z)
  greatest4-of h i j k = high-of (greatest_f a b) (greatest_f c d) z (high-of a b z h i) (high-of c d z j k)

-- ---- of two numbers
module _ (a b : Float) (n : T (not (is_nan a))) (m : T (not (is_nan b))) where
  neither : {A : Type 0} → T (is_nan a) ⊎ T (is_nan b) → A
  neither h = elim h [ inl k ↦ absurd (T_not (is_nan a) n k) | inr k ↦ absurd (T_not (is_nan b) m k) ]

  pub least_first : T (le (least_f a b) a)
  least_first = least-is a b (λ r. T (le r a)) (λ _. refl-le a n) (λ t. t) neither

  pub least-second : T (le (least_f a b) b)
  least-second = least-is a b (λ r. T (le r b)) (λ t. t) (λ _. refl-le b m) neither

  pub greatest-first : T (le a (greatest_f a b))
  greatest-first = greatest-is a b (λ r. T (le a r)) (λ _. refl-le a n) (λ t. t) neither

  pub greatest-second : T (le b (greatest_f a b))
  greatest-second = greatest-is a b (λ r. T (le b r)) (λ t. t) (λ _. refl-le b m) neither

  pub least-both : (z : Float) → T (le z a) → T (le z b) → T (le z (least_f a b))
  least-both z h k = least-is a b (λ r. T (le z r)) (λ _. h) (λ _. k) neither

  pub greatest-both : (z : Float) → T (le a z) → T (le b z) → T (le (greatest_f a b) z)
  greatest-both z h k = greatest-is a b (λ r. T (le r z)) (λ _. h) (λ _. k) neither

-- ---- the least and the greatest are both NaN, or in their order
abbrev pub Ordered : Float → Float → Type 0
Ordered l g = (T (is_nan l) × T (is_nan g)) ⊎ T (le l g)

pub ordered-self : (a : Float) → Ordered a a
ordered-self a = elim (nan-or-num a) [ inl n ↦ inl (n, n) | inr n ↦ inr (refl-le a n) ]

-- a NaN does not compare
nan-taken : (a b : Float) → T (is_nan a) ⊎ T (is_nan b) → T (is_nan (least_f a b)) × T (is_nan (greatest_f a b))
unfolding is_nan
nan-taken a b n = (
  least-is a b (λ r. T (is_nan r)) (λ h. absurd (neither a b (le-nums a b h).0 (le-nums a b h).1 n)) (λ h. absurd (neither a b (le-nums b a h).1 (le-nums b a h).0 n)) (λ _. tt),
  greatest-is a b (λ r. T (is_nan r)) (λ h. absurd (neither a b (le-nums b a h).1 (le-nums b a h).0 n)) (λ h. absurd (neither a b (le-nums a b h).0 (le-nums a b h).1 n)) (λ _. tt),
)

pub ordered : (l g l' g' : Float) → Ordered l g → Ordered l' g' → Ordered (least_f l l') (greatest_f g g')
ordered l g l' g' h k = elim h [
  | inl n ↦ inl ((nan-taken l l' (inl n.0)).0, (nan-taken g g' (inl n.1)).1)
  | inr a ↦ elim k [
    | inl n ↦ inl ((nan-taken l l' (inr n.0)).0, (nan-taken g g' (inr n.1)).1)
    | inr b ↦
        let i = le-nums l g a in
        let j = le-nums l' g' b in
        inr (trans_le (least_f l l') l (greatest_f g g') (least_first l l' i.0 j.0) (trans_le l g (greatest_f g g') a (greatest-first g g' i.1 j.1)))
  ]
]

pub ordered-bound : (s : Bool) (l g : Float) → Ordered l g → T (le (bound s l) (bound s g))
ordered-bound s l g h = elim h [
  | inl n ↦ subst (λ (z : Float). T (le z (bound s g))) (nan-bound s l n.0) (subst (λ (z : Float). T (le (bound s nan) z)) (nan-bound s g n.1) (bound-refl s nan))
  | inr k ↦ bound-le s l g k
]
