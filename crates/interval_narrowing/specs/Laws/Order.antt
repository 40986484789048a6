-- The program's order of all floats that are numbers: what compares with a float, and how `<`, `==` and a change of sign go with it. Assumes nothing.
use Rattle.std.specs.Prelude.{◌⊎◌, ℕ, suc, ◌+◌, ◌*◌, ◌≤◌, ◌<◌, Bool, true, false, not, cond, ◌||◌, T, Float}
use Rattle.std.proofs.Common.{inl, inr, le_refl, le_of_lt, add-mul, mul_assoc, mul_comm, mul-le-mul_right, le_of_mul-le-mul_right, arith}
use Rattle.std.specs.Float.{nan, inf, fin}
use Rattle.std.specs.Float.Ieee.{up, down, below, level, is_nan, neg, le, lt, eq}
use Rattle.std.specs.Float.Ieee.Positive.{den, den_pos}
use Rattle.interval_arithmetic.specs.Ops.{zero_f}
use Rattle.float_values.specs.Laws.Small.{le-or-lt, or_split, or_left, or_right}
use Rattle.float_values.specs.Laws.Order.{le-nums}
use Rattle.float_values.specs.Laws.Adjacent.{eq-back, lt-le-clash}
use Rattle.interval_narrowing.specs.Laws.Numbers.{beyond-both, right, left, reach, sides-to, sides-of, order-to, order-of}

-- ---- an order
pub refl-le : (x : Float) → T (not (is_nan x)) → T (le x x)
refl-le x n = order-of (suc (reach x)) x x (le_refl (suc (reach x))) (le_refl (suc (reach x))) n n (omega arith)

through : (a b c d e f A B C : ℕ) → 0 < B → a * B + d * A ≤ c * A + b * B → c * C + f * B ≤ e * B + d * C → a * C + f * A ≤ e * A + b * C
through a b c d e f A B C P h k =
    let x : _ ≤ _ = simp (add-mul, mul_assoc) at (mul-le-mul_right C h) in
    let y : _ ≤ _ = simp (add-mul, mul_assoc, mul_comm) at (mul-le-mul_right A k) in
    le_of_mul-le-mul_right {k = B} (simp (add-mul, mul_assoc, mul_comm) (omega arith)) P

pub trans_le : (x y z : Float) → T (le x y) → T (le y z) → T (le x z)
trans_le x y z h k =
    let H = suc (reach x + reach y + reach z) in
    order-of H x z (in-x (reach x) (reach y) (reach z)) (in-z (reach x) (reach y) (reach z)) (le-nums x y h).0 (le-nums y z k).1
    (through (right H x) (left H x) (right H y) (left H y) (right H z) (left H z) (den x) (den y) (den z) (den_pos y)
    (order-to H x y (in-x (reach x) (reach y) (reach z)) (in-y (reach x) (reach y) (reach z)) h)
    (order-to H y z (in-y (reach x) (reach y) (reach z)) (in-z (reach x) (reach y) (reach z)) k))
  where
    in-x : (a b c : ℕ) → a < suc (a + b + c)
    in-x a b c = omega arith

    in-y : (a b c : ℕ) → b < suc (a + b + c)
    in-y a b c = omega arith

    in-z : (a b c : ℕ) → c < suc (a + b + c)
    in-z a b c = omega arith

pub total-le : (x y : Float) → T (not (is_nan x)) → T (not (is_nan y)) → T (le x y) ⊎ T (le y x)
total-le x y f g =
    let H = suc (reach x + reach y) in
    let i = beyond-both (reach x) (reach y) in
    elim (le-or-lt (right H x * den y + left H y * den x) (right H y * den x + left H x * den y)) [
      | inl h ↦ inl (order-of H x y i.0 i.1 f g h)
      | inr h ↦ inr (order-of H y x i.1 i.0 g f (le_of_lt h))
    ]

pub zero-num : T (not (is_nan zero_f))
unfolding is_nan
zero-num = tt

-- ---- `==` and `<` by `<=`
pub eq-le : (x y : Float) → T (eq x y) → T (le x y)
unfolding le
eq-le x y h = or_right (lt x y) (eq x y) h

-- what is not `<=` is `<`, the other way round
pub lt_of : (x y : Float) → T (not (is_nan x)) → T (not (is_nan y)) → (T (le y x) → ⊥) → T (lt x y)
unfolding le
lt_of x y f g n = elim (total-le x y f g) [
  | inl h ↦ elim (or_split (lt x y) (eq x y) h) [ inl l ↦ l | inr e ↦ absurd (n (eq-back x y e)) ]
  | inr h ↦ absurd (n h)
]

pub lt-le : (x y : Float) → T (lt x y) → T (le x y)
unfolding le
lt-le x y h = or_left (lt x y) (eq x y) h

pub before : (x y z : Float) → T (lt x y) → T (le y z) → T (lt x z)
before x y z h k = lt_of x z (le-nums x y (lt-le x y h)).0 (le-nums y z k).1 (λ l. lt-le-clash x y h (trans_le y z x k l))

pub after : (x y z : Float) → T (le x y) → T (lt y z) → T (lt x z)
after x y z h k = lt_of x z (le-nums x y h).0 (le-nums y z (lt-le y z k)).1 (λ l. lt-le-clash y z k (trans_le z x y l h))

-- ---- a change of sign turns the order
turned : (s : Bool) (a : ℕ) (t : Bool) (b : ℕ) → T (below s a t b || level s a t b) → T (below (not t) b (not s) a || level (not t) b (not s) a)
turned s a t b h = sides-of (not t) b (not s) a (go s t (sides-to s a t b h))
  where
    go : (s t : Bool) → cond s 0 a + cond t b 0 ≤ cond t 0 b + cond s a 0 → cond (not t) 0 b + cond (not s) a 0 ≤ cond (not s) 0 a + cond (not t) b 0
    go true true h = omega arith
    go true false h = omega arith
    go false true h = omega arith
    go false false h = omega arith

pub neg-le : (x y : Float) → T (le x y) → T (le (neg y) (neg x))
unfolding le neg
neg-le nan y h = absurd h
neg-le (inf s) nan h = absurd h
neg-le (inf true) (inf true) h = tt
neg-le (inf true) (inf false) h = tt
neg-le (inf false) (inf true) h = absurd h
neg-le (inf false) (inf false) h = tt
neg-le (inf true) (fin t n d) h = tt
neg-le (inf false) (fin t n d) h = absurd h
neg-le (fin s m e) nan h = absurd h
neg-le (fin s m e) (inf true) h = absurd h
neg-le (fin s m e) (inf false) h = tt
neg-le (fin s m e) (fin t n d) h = turned s (m * up e * down d) t (n * up d * down e) h
