-- The square of an interval holds the exact square of each number that the interval holds, and the sign of an interval is the sign of each number that it holds. Assumes nothing.
use Rattle.std.specs.Prelude.{◌≡◌, ◌⊎◌, ℕ, ◌+◌, ◌*◌, ◌≤◌, ◌<◌, Bool, not, cond, ◌||◌, ◌&&◌, eqb, ltb, ℤ, pos, Float}
use Rattle.std.proofs.Common.{sym, ap, ◌∙◌, inl, inr, zero-le, le_of_lt, le_antisymm, zero-mul, mul-one, mul-le-mul_right, le_of_mul-le-mul_right, lt_of_mul-lt-mul_right, mul-pos, eq-or-lt_of_le, arith, eqb→eq, ltb→lt, lt→ltb, T_not}
use Rattle.std.proofs.Math.Path.{subst}
use Rattle.std.proofs.Math.Nat.{add_comm}
use Rattle.std.proofs.Math.Bool.{true, false}
use Rattle.std.specs.Bool.{beq}
use Rattle.std.proofs.Math.Dec.{T}
use Rattle.std.specs.Float.Ieee.{nan, fin, binary64, up, down, fits, is_nan, neg, mul, le, lt, eq}
use Rattle.std.specs.Float.{inf}
use Rattle.std.specs.Float.Ieee.Fits.{mul-fits, neg-fits, eq→eqb, cond-fits, and_l, and_i}
use Rattle.interval_arithmetic.specs.declared.Interval.{Interval}
use Rattle.interval_arithmetic.specs.declared.Sign.{Sign}
use Rattle.interval_arithmetic.specs.declared.Sign.TheVariants.{Negative, Zero, Positive, Unresolved}
use Rattle.float_order.specs.Next.{next_up, next_down}
use Rattle.float_order.specs.Extremes.{least_f, greatest_f, square_low}
use Rattle.interval_arithmetic.specs.Ops.{zero_f, sqr_i, pick_sign, sign_i}
use Rattle.float_values.specs.Value.{ONE, units}
use Rattle.float_values.specs.Laws.Small.{le-or-lt, or_left, or_right}
use Rattle.float_values.specs.Laws.Pairs.{plus, minus, Lower, Upper}
use Rattle.interval_enclosure.specs.Laws.Pairs.{In}
use Rattle.float_values.specs.Laws.Central.{one-pos}
use Rattle.float_values.specs.Laws.Near.{near_mul, upper_mono, own, units-is}
use Rattle.float_values.specs.Laws.Order.{le-nums}
use Rattle.float_values.specs.Laws.Floats.{neg-le-zero}
use Rattle.interval_enclosure.specs.Laws.Sums.{down_fits, up_fits, high-inf, checked-in, neg-lower, neg-upper}
use Rattle.interval_enclosure.specs.Laws.Products.{Low, High, rearrange, join-low, prod-low, least-low, greatest-high, greatest-fits, mul-neg-neg, down-num, up-num}

-- ---- a bound on the far side of zero: 0 ≤ a ≤ A gives a * a ≤ A * A, and 0 ≤ A ≤ a gives A * A ≤ a * a
module _ (D : ℕ) (D-pos : 0 < D) where
  low-square : (k : ℕ) (e : ℤ) (p n : ℕ) → T (fits binary64 (fin false k e)) → Lower D (fin false k e) p n → Low (D * D) (mul binary64 (fin false k e) (fin false k e)) (p * p + n * n) (p * n + n * p)
  low-square k e p n f h =
      let x = fin false k e in
      let o : n ≤ p = le_of_mul-le-mul_right {k = ONE} (omega arith) one-pos in
      λ _. prod-low D D p n p n x x f f tt tt (rearrange (plus x * D + n * ONE) (p * ONE + minus x * D) n p h o)
      (rearrange 0 (plus x) (plus x * D + n * ONE) (p * ONE + minus x * D) zero-le h)

  -- `join-low` turned round
  join-high : (P M p n : ℕ) → n ≤ p → p * ONE + M * D ≤ P * D + n * ONE → (p * p + n * n) * (ONE * ONE) + (P * M + M * P) * (D * D) ≤ (P * P + M * M) * (D * D) + (p * n + n * p) * (ONE * ONE)
  join-high P M p n o h =
      let MP : M ≤ P = le_of_mul-le-mul_right {k = D} (let w = mul-le-mul_right ONE o in omega arith) D-pos in
      let r = join-low p n p n P M P M ONE ONE D
      (let w = rearrange (p * ONE + M * D) (P * D + n * ONE) M P h MP in omega arith)
      (let w = rearrange n p (p * ONE + M * D) (P * D + n * ONE) o h in omega arith) in
      omega arith

  high-square : (x : Float) (p n : ℕ) → n ≤ p → T (fits binary64 x) → Upper D x p n → High (D * D) (mul binary64 x x) (p * p + n * n) (p * n + n * p)
  unfolding mul
  high-square nan p n o f h = absurd h
  high-square (inf true) p n o f h = absurd h
  high-square (inf false) p n o f h = λ _. high-inf (D * D) (p * p + n * n) (p * n + n * p)
  high-square (fin s k e) p n o f h =
      let x = fin s k e in
      λ _. upper_mono (next_up (mul binary64 x x)) (ONE * ONE) (D * D) (plus x * plus x + minus x * minus x) (plus x * minus x + minus x * plus x) (p * p + n * n) (p * n + n * p)
      (mul-pos one-pos one-pos) (join-high (plus x) (minus x) p n o h) (near_mul x x f f tt tt).above

-- ---- the square is not negative
abbrev square_spans : Float → Float → Bool
square_spans lo hi = le lo zero_f && le zero_f hi

square-nonneg : (p n : ℕ) → p * n + n * p ≤ p * p + n * n
square-nonneg p n = elim (le-or-lt n p) [
  | inl h ↦ let w = rearrange n p n p h h in omega arith
  | inr h ↦ let w = rearrange p n p n (le_of_lt h) (le_of_lt h) in omega arith
]

zero-units : units zero_f ≡ 0
zero-units = units-is false 0 (pos 0) 0 (zero-mul ONE)

zero-low : (E p n : ℕ) → Lower E zero_f (p * p + n * n) (p * n + n * p)
zero-low E p n =
    let w = mul-le-mul_right ONE (square-nonneg p n) in
    let z : units zero_f * E ≡ 0 = ap (λ (u : ℕ). u * E) zero-units ∙ zero-mul E in
    omega arith

-- ---- the tests against zero
zero-le-pos : (k : ℕ) (e : ℤ) → T (le zero_f (fin false k e))
unfolding le
zero-le-pos k e = elim (eq-or-lt_of_le (zero-le {n = k * up e * 1})) [
  | inl z ↦ or_right (ltb (0 * down e) (k * up e * 1)) (eqb (0 * down e) (k * up e * 1) && true) (and_i (eqb (0 * down e) (k * up e * 1)) true (eq→eqb (zero-mul (down e) ∙ z)) tt)
  | inr l ↦ or_left (ltb (0 * down e) (k * up e * 1)) (eqb (0 * down e) (k * up e * 1) && true) (lt→ltb (0 * down e) (k * up e * 1) (let w = zero-mul (down e) in omega arith))
]

module _ (D : ℕ) (D-pos : 0 < D) where
  -- a lower bound above zero
  low-if : (x : Float) (p n : ℕ) → T (not (le x zero_f)) → T (fits binary64 x) → Lower D x p n → Low (D * D) (mul binary64 x x) (p * p + n * n) (p * n + n * p)
  low-if nan p n t f h = absurd h
  low-if (inf false) p n t f h = absurd h
  low-if (inf true) p n t f h = absurd (unfold le in t)
  low-if (fin true k e) p n t f h = absurd (T_not (le (fin true k e) zero_f) t (neg-le-zero k e))
  low-if (fin false k e) p n t f h = low-square D D-pos k e p n f h

  -- an upper bound below zero
  high-if : (x : Float) (p n : ℕ) → T (not (le zero_f x)) → T (fits binary64 x) → Upper D x p n → Low (D * D) (mul binary64 x x) (p * p + n * n) (p * n + n * p)
  unfolding neg
  high-if nan p n t f h = absurd h
  high-if (inf true) p n t f h = absurd h
  high-if (inf false) p n t f h = absurd (unfold le in t)
  high-if (fin false k e) p n t f h = absurd (T_not (le zero_f (fin false k e)) t (zero-le-pos k e))
  high-if (fin true k e) p n t f h =
      subst (λ (r : Float). Low (D * D) r (p * p + n * n) (p * n + n * p)) (mul-neg-neg (fin true k e))
      (rw (add_comm (p * p) (n * n), add_comm (p * n) (n * p)) (low-square D D-pos k e n p (neg-fits binary64 (fin true k e) f) (neg-lower D (fin true k e) p n h)))

  -- one of the two squares is an upper bound
  one-high : (x y : Float) (p n : ℕ) → T (fits binary64 x) → T (fits binary64 y) → Lower D x p n → Upper D y p n
      → High (D * D) (mul binary64 x x) (p * p + n * n) (p * n + n * p) ⊎ High (D * D) (mul binary64 y y) (p * p + n * n) (p * n + n * p)
  one-high x y p n f g h k = elim (le-or-lt n p) [
    | inl o ↦ inr (high-square D D-pos y p n o g k)
    | inr o ↦
        inl
        (subst (λ (r : Float). High (D * D) r (p * p + n * n) (p * n + n * p)) (mul-neg-neg x)
        (rw (add_comm (p * p) (n * n), add_comm (p * n) (n * p)) (high-square D D-pos (neg x) n p (le_of_lt o) (neg-fits binary64 x f) (neg-upper D x p n h))))
  ]

  one-low : (x y : Float) (p n : ℕ) → T (fits binary64 x) → T (fits binary64 y) → Lower D x p n → Upper D y p n → T (not (square_spans x y))
      → Low (D * D) (least_f (mul binary64 x x) (mul binary64 y y)) (p * p + n * n) (p * n + n * p)
  one-low x y p n f g h k t = least-low (D * D) (p * p + n * n) (p * n + n * p) (mul binary64 x x) (mul binary64 y y) (mul-fits binary64 x x) (mul-fits binary64 y y) (go (le x zero_f) (le zero_f y) (λ s. s) (λ s. s) t)
    where
      go : (a b : Bool) → (T (not a) → T (not (le x zero_f))) → (T (not b) → T (not (le zero_f y))) → T (not (a && b))
          → Low (D * D) (mul binary64 x x) (p * p + n * n) (p * n + n * p) ⊎ Low (D * D) (mul binary64 y y) (p * p + n * n) (p * n + n * p)
      go true true c d t = absurd t
      go true false c d t = inr (high-if y p n (d tt) g k)
      go false b c d t = inl (low-if x p n (c tt) f h)

  -- the greater of a lower bound and zero
  above_zero : (q : Float) (p n : ℕ) → Low (D * D) q (p * p + n * n) (p * n + n * p) → T (not (is_nan (greatest_f (next_down q) zero_f))) → Lower (D * D) (greatest_f (next_down q) zero_f) (p * p + n * n) (p * n + n * p)
  unfolding is_nan
  above_zero q p n h = go (le zero_f (next_down q)) (le (next_down q) zero_f) (λ s. s)
    where
      go : (a b : Bool) → (T a → T (le zero_f (next_down q))) → T (not (is_nan (cond a (next_down q) (cond b zero_f nan)))) → Lower (D * D) (cond a (next_down q) (cond b zero_f nan)) (p * p + n * n) (p * n + n * p)
      go true b c t = h (down-num q (le-nums zero_f (next_down q) (c tt)).1)
      go false true c t = zero-low (D * D) p n
      go false false c t = absurd t

  square-low : (x y : Float) (p n : ℕ) → T (fits binary64 x) → T (fits binary64 y) → Lower D x p n → Upper D y p n
      → T (not (is_nan (square_low (square_spans x y) (least_f (mul binary64 x x) (mul binary64 y y))))) → Lower (D * D) (square_low (square_spans x y) (least_f (mul binary64 x x) (mul binary64 y y))) (p * p + n * n) (p * n + n * p)
  square-low x y p n f g h k = go (square_spans x y) (λ s. s)
    where
      q : Float
      q = least_f (mul binary64 x x) (mul binary64 y y)

      go : (s : Bool) → (T (not s) → T (not (square_spans x y))) → T (not (is_nan (cond s zero_f (greatest_f (next_down q) zero_f)))) → Lower (D * D) (cond s zero_f (greatest_f (next_down q) zero_f)) (p * p + n * n) (p * n + n * p)
      go true c t = zero-low (D * D) p n
      go false c t = above_zero q p n (one-low x y p n f g h k (c tt)) t

zero-fits : T (fits binary64 zero_f)
unfolding fits
zero-fits = tt

pub in-sqr : (D : ℕ) (x : Interval) (p n : ℕ) → 0 < D → In D x p n → In (D * D) (sqr_i x) (p * p + n * n) (p * n + n * p)
unfolding sqr_i
in-sqr D x p n D-pos h =
    let a = mul binary64 x.lo x.lo in
    let b = mul binary64 x.hi x.hi in
    let fa = mul-fits binary64 x.lo x.lo in
    let fb = mul-fits binary64 x.hi x.hi in
    let P = p * p + n * n in
    let N = p * n + n * p in
    checked-in (D * D) P N (square_low (square_spans x.lo x.hi) (least_f a b)) (next_up (greatest_f a b))
    (cond-fits binary64 (square_spans x.lo x.hi) zero_f (greatest_f (next_down (least_f a b)) zero_f) zero-fits (greatest-fits (next_down (least_f a b)) zero_f (down_fits (least_f a b)) zero-fits))
    (up_fits (greatest_f a b))
    (square-low D D-pos x.lo x.hi p n h.lo-held h.hi-held h.low h.high)
    (λ t. greatest-high (D * D) P N a b fa fb (one-high D D-pos x.lo x.hi p n h.lo-held h.hi-held h.low h.high) (up-num (greatest_f a b) t))

-- ---- the sign
units-pos : (s : Bool) (k : ℕ) (e : ℤ) → T (fits binary64 (fin s k e)) → 0 < k * up e * 1 → 0 < units (fin s k e)
units-pos s k e f h = elim (eq-or-lt_of_le (zero-le {n = units (fin s k e)})) [
  | inl z ↦
      let w : k * up e * ONE ≡ 0 = own s k e f ∙ ap (λ (u : ℕ). u * down e) (sym z) ∙ zero-mul (down e) in
      let v : 0 < k * up e * ONE = mul-pos (subst (λ (u : ℕ). 0 < u) (mul-one (k * up e)) h) one-pos in
      absurd (omega arith)
  | inr l ↦ l
]

units-zero : (s : Bool) (k : ℕ) (e : ℤ) → k * up e * 1 ≡ 0 → units (fin s k e) ≡ 0
units-zero s k e h = units-is s k e 0 (ap (λ (u : ℕ). u * ONE) (sym (mul-one (k * up e)) ∙ h) ∙ zero-mul ONE ∙ sym (zero-mul (down e)))

-- what a sign says of (p - n) / D
unfoldable pub Says : Sign → ℕ → ℕ → Type 0
Says Negative p n = p < n
Says Zero p n = p ≡ n
Says Positive p n = n < p
Says Unresolved p n = Unit {0}

less : (u D a b : ℕ) → 0 < u → 0 < D → u * D + a * ONE ≤ b * ONE → a < b
less u D a b U D-pos h = lt_of_mul-lt-mul_right ONE (let w = mul-pos U D-pos in omega arith)

positive-says : (D : ℕ) (x : Float) (p n : ℕ) → 0 < D → T (fits binary64 x) → Lower D x p n → T (lt zero_f x) → n < p
unfolding lt
positive-says D nan p n D-pos f h t = absurd h
positive-says D (inf true) p n D-pos f h t = absurd t
positive-says D (inf false) p n D-pos f h t = absurd h
positive-says D (fin true k e) p n D-pos f h t = absurd t
positive-says D (fin false k e) p n D-pos f h t =
    let l = ltb→lt (0 * down e) (k * up e * 1) t in
    less (units (fin false k e)) D n p (units-pos false k e f (omega arith)) D-pos (omega arith)

negative-says : (D : ℕ) (x : Float) (p n : ℕ) → 0 < D → T (fits binary64 x) → Upper D x p n → T (lt x zero_f) → p < n
unfolding lt
negative-says D nan p n D-pos f h t = absurd h
negative-says D (inf true) p n D-pos f h t = absurd h
negative-says D (inf false) p n D-pos f h t = absurd t
negative-says D (fin false k e) p n D-pos f h t = absurd (no (k * up e * 1) (down e) (ltb→lt (k * up e * 1) (0 * down e) t))
  where
    no : (a d : ℕ) → a < 0 * d → ⊥
    no a d h = let w = zero-mul d in omega arith
negative-says D (fin true k e) p n D-pos f h t =
    let l = ltb→lt 0 (k * up e * 1 + 0 * down e) t in
    let z = zero-mul (down e) in
    less (units (fin true k e)) D p n (units-pos true k e f (omega arith)) D-pos (omega arith)

eq-zero : (s : Bool) (k : ℕ) (e : ℤ) → T (eq (fin s k e) zero_f) → units (fin s k e) ≡ 0
unfolding eq
eq-zero s k e t = units-zero s k e (eqb→eq (k * up e * 1) (0 * down e) (and_l (eqb (k * up e * 1) (0 * down e)) (beq s false || eqb (k * up e * 1) 0) t) ∙ zero-mul (down e))

zero-low-says : (D : ℕ) (x : Float) (p n : ℕ) → Lower D x p n → T (eq x zero_f) → n ≤ p
unfolding eq
zero-low-says D nan p n h t = absurd h
zero-low-says D (inf true) p n h t = absurd t
zero-low-says D (inf false) p n h t = absurd h
zero-low-says D (fin true k e) p n h t =
    let z : units (fin true k e) * D ≡ 0 = ap (λ (u : ℕ). u * D) (eq-zero true k e t) ∙ zero-mul D in
    le_of_mul-le-mul_right {k = ONE} (omega arith) one-pos
zero-low-says D (fin false k e) p n h t = le_of_mul-le-mul_right {k = ONE} (omega arith) one-pos

zero-high-says : (D : ℕ) (x : Float) (p n : ℕ) → Upper D x p n → T (eq x zero_f) → p ≤ n
unfolding eq
zero-high-says D nan p n h t = absurd h
zero-high-says D (inf true) p n h t = absurd h
zero-high-says D (inf false) p n h t = absurd t
zero-high-says D (fin false k e) p n h t =
    let z : units (fin false k e) * D ≡ 0 = ap (λ (u : ℕ). u * D) (eq-zero false k e t) ∙ zero-mul D in
    le_of_mul-le-mul_right {k = ONE} (omega arith) one-pos
zero-high-says D (fin true k e) p n h t = le_of_mul-le-mul_right {k = ONE} (omega arith) one-pos

pub sign-says : (D : ℕ) (x : Interval) (p n : ℕ) → 0 < D → In D x p n → Says (sign_i x) p n
unfolding Says sign_i
sign-says D x p n D-pos h = go (lt zero_f x.lo) (lt x.hi zero_f) (eq x.lo zero_f) (eq x.hi zero_f) (λ t. t) (λ t. t) (λ t. t) (λ t. t)
  where
    go : (a b c d : Bool) → (T a → T (lt zero_f x.lo)) → (T b → T (lt x.hi zero_f)) → (T c → T (eq x.lo zero_f)) → (T d → T (eq x.hi zero_f))
        → Says (pick_sign a Positive (pick_sign b Negative (pick_sign (c && d) Zero Unresolved))) p n
    go true b c d i j k l = positive-says D x.lo p n D-pos h.lo-held h.low (i tt)
    go false true c d i j k l = negative-says D x.hi p n D-pos h.hi-held h.high (j tt)
    go false false true true i j k l = le_antisymm (zero-high-says D x.hi p n h.high (l tt)) (zero-low-says D x.lo p n h.low (k tt))
    go false false true false i j k l = tt
    go false false false d i j k l = tt
