-- The product and the square of intervals hold the exact product and the exact square of numbers that the intervals hold. Assumes nothing.
use Rattle.std.specs.Prelude.{◌≡◌, refl, ◌⊎◌, Bool, not, cond, T, eqb, ℤ, Float}
use Rattle.std.proofs.Common.{sym, ap, ◌∙◌, subst, inl, inr, le_of_lt, not-le_of_lt, lt_irrefl, zero-lt-suc, add_comm, add-mul, mul-add, mul_assoc, mul_comm, mul_left_comm, mul-pos, zero-mul, arith}
use Prim.Native.Nat.{ℕ, zero, suc, ◌+◌, ◌-◌, ◌*◌, ◌≤◌, ◌<◌, zero-le}
use Rattle.std.proofs.Math.Nat.{le_dest, mul-le-mul_right}
use Rattle.std.proofs.Math.Bool.{true, false}
use Rattle.std.specs.Float.Ieee.{nan, binary64, up, down, fits, is_nan, neg, mul, round, unlike, le}
use Rattle.std.specs.Float.{inf, fin}
use Rattle.std.specs.Float.Ieee.Fits.{cond-fits, nan-fits, neg-fits, mul-fits, eq→eqb, up_pos}
use Rattle.std.specs.Float.Ieee.Scale.{finite}
use Rattle.interval_arithmetic.specs.declared.Interval.{Interval}
use Rattle.float_order.specs.Next.{INF, next_up, next_down}
use Rattle.float_order.specs.Extremes.{least_f, greatest_f}
use Rattle.interval_arithmetic.specs.Ops.{least4, greatest4, mul_i}
use Rattle.float_values.specs.Value.{ONE, units}
use Rattle.float_values.specs.Laws.Small.{le-or-lt, in_top, neg-neg}
use Rattle.float_values.specs.Laws.Pairs.{plus, minus, Lower, Upper}
use Rattle.interval_enclosure.specs.Laws.Pairs.{In}
use Rattle.float_values.specs.Laws.Patterns.{F, F-neg, view}
use Rattle.float_values.specs.Laws.Central.{one-pos, round-neg}
use Rattle.float_values.specs.Laws.Near.{near_mul, lower_mono, own}
use Rattle.float_values.specs.Laws.Order.{le-nums, down-mono, up-mono, down_s, down_i, up_s, up_i, up_i-in, down_is, up_is}
use Rattle.interval_enclosure.specs.Laws.Sums.{down_fits, up_fits, low-inf, checked-in, neg-lower, neg-upper}

-- ---- the least of some floats, and the greatest. A NaN among them is the result, of which nothing is asked
abbrev pub Low : ℕ → Float → ℕ → ℕ → Type 0
Low D r p n = T (not (is_nan r)) → Lower D (next_down r) p n

abbrev pub High : ℕ → Float → ℕ → ℕ → Type 0
High D r p n = T (not (is_nan r)) → Upper D (next_up r) p n

pub least-low : (D p n : ℕ) (a b : Float) → T (fits binary64 a) → T (fits binary64 b) → Low D a p n ⊎ Low D b p n → Low D (least_f a b) p n
unfolding is_nan
least-low D p n a b f g h = go (le a b) (le b a) (λ t. t) (λ t. t) h
  where
    go : (s t : Bool) → (T s → T (le a b)) → (T t → T (le b a)) → Low D a p n ⊎ Low D b p n → Low D (cond s a (cond t b nan)) p n
    go true t x y (inl k) = k
    go true t x y (inr k) = λ _. down-mono a b D p n f g (x tt) (k (le-nums a b (x tt)).1)
    go false true x y (inl k) = λ _. down-mono b a D p n g f (y tt) (k (le-nums b a (y tt)).1)
    go false true x y (inr k) = k
    go false false x y k = λ z. absurd z

pub greatest-high : (D p n : ℕ) (a b : Float) → T (fits binary64 a) → T (fits binary64 b) → High D a p n ⊎ High D b p n → High D (greatest_f a b) p n
unfolding is_nan
greatest-high D p n a b f g h = go (le b a) (le a b) (λ t. t) (λ t. t) h
  where
    go : (s t : Bool) → (T s → T (le b a)) → (T t → T (le a b)) → High D a p n ⊎ High D b p n → High D (cond s a (cond t b nan)) p n
    go true t x y (inl k) = k
    go true t x y (inr k) = λ _. up-mono b a D p n g f (x tt) (k (le-nums b a (x tt)).0)
    go false true x y (inl k) = λ _. up-mono a b D p n f g (y tt) (k (le-nums a b (y tt)).0)
    go false true x y (inr k) = k
    go false false x y k = λ z. absurd z

pub least_fits : (a b : Float) → T (fits binary64 a) → T (fits binary64 b) → T (fits binary64 (least_f a b))
least_fits a b f g = cond-fits binary64 (le a b) a (cond (le b a) b nan) f (cond-fits binary64 (le b a) b nan g (nan-fits binary64))

pub greatest-fits : (a b : Float) → T (fits binary64 a) → T (fits binary64 b) → T (fits binary64 (greatest_f a b))
greatest-fits a b f g = cond-fits binary64 (le b a) a (cond (le a b) b nan) f (cond-fits binary64 (le a b) b nan g (nan-fits binary64))

-- one of four
abbrev Any : (Float → Type 0) → Float → Float → Float → Float → Type 0
Any P a b c d = (P a ⊎ P b) ⊎ (P c ⊎ P d)

module _ (D p n : ℕ) (a b c d : Float) (fa : T (fits binary64 a)) (fb : T (fits binary64 b)) (fc : T (fits binary64 c)) (fd : T (fits binary64 d)) where
  least4-low : Any (λ r. Low D r p n) a b c d → Low D (least4 a b c d) p n
  least4-low h = least-low D p n (least_f a b) (least_f c d) (least_fits a b fa fb) (least_fits c d fc fd) (elim h [ inl k ↦ inl (least-low D p n a b fa fb k) | inr k ↦ inr (least-low D p n c d fc fd k) ])

  greatest4-high : Any (λ r. High D r p n) a b c d → High D (greatest4 a b c d) p n
  greatest4-high h = greatest-high D p n (greatest_f a b) (greatest_f c d) (greatest-fits a b fa fb) (greatest-fits c d fc fd) (elim h [ inl k ↦ inl (greatest-high D p n a b fa fb k) | inr k ↦ inr (greatest-high D p n c d fc fd k) ])

-- ---- (T - S) * (q - m) is not negative where both factors have one sign
pub rearrange : (S T m q : ℕ) → S ≤ T → m ≤ q → S * q + T * m ≤ T * q + S * m
rearrange S T m q h k =
    let d = le_dest h in
    let e = le_dest k in
    rw (← d.1, ← e.1) (simp (add-mul, mul-add) (omega arith))

-- ---- a * b ≤ a * B ≤ A * B, for a = (P - M) / U, b = (Q - N) / U, A = (p - n) / D and B = (q - m) / E
pub join-low : (P M Q N p n q m D E U : ℕ)
    → (P * D + n * U) * q + (p * U + M * D) * m ≤ (p * U + M * D) * q + (P * D + n * U) * m
    → M * (q * U + N * E) + P * (Q * E + m * U) ≤ P * (q * U + N * E) + M * (Q * E + m * U)
    → (P * Q + M * N) * (D * E) + (p * m + n * q) * (U * U) ≤ (p * q + n * m) * (U * U) + (P * N + M * Q) * (D * E)
join-low P M Q N p n q m D E U h k =
    let a : _ ≤ _ = simp (add-mul, mul-add, mul_assoc, mul_comm, mul_left_comm) at (mul-le-mul_right U h) in
    let b : _ ≤ _ = simp (add-mul, mul-add, mul_assoc, mul_comm, mul_left_comm) at (mul-le-mul_right D k) in
    simp (add-mul, mul-add, mul_assoc, mul_comm, mul_left_comm) (omega arith)

-- ---- the sign goes through a product and a step
pub mul-neg : (x y : Float) → mul binary64 (neg x) y ≡ neg (mul binary64 x y)
unfolding mul neg
mul-neg nan y = refl
mul-neg (inf s) nan = refl
mul-neg (inf true) (inf true) = refl
mul-neg (inf true) (inf false) = refl
mul-neg (inf false) (inf true) = refl
mul-neg (inf false) (inf false) = refl
mul-neg (inf s) (fin t n d) = go s t (eqb n 0)
  where
    go : (s t z : Bool) → cond z nan (inf (unlike (not s) t)) ≡ neg (cond z nan (inf (unlike s t)))
    go true true true = refl
    go true true false = refl
    go true false true = refl
    go true false false = refl
    go false true true = refl
    go false true false = refl
    go false false true = refl
    go false false false = refl
mul-neg (fin s m e) nan = refl
mul-neg (fin s m e) (inf t) = go s t (eqb m 0)
  where
    go : (s t z : Bool) → cond z nan (inf (unlike (not s) t)) ≡ neg (cond z nan (inf (unlike s t)))
    go true true true = refl
    go true true false = refl
    go true false true = refl
    go true false false = refl
    go false true true = refl
    go false true false = refl
    go false false true = refl
    go false false false = refl
mul-neg (fin s m e) (fin t n d) = go s t
  where
    N : ℕ
    N = m * up e * (n * up d)

    c : ℕ
    c = down e * down d

    twice : round binary64 false N c ≡ neg (round binary64 true N c)
    twice = sym (neg-neg (round binary64 false N c)) ∙ ap neg (sym (round-neg N c))

    go : (s t : Bool) → round binary64 (unlike (not s) t) N c ≡ neg (round binary64 (unlike s t) N c)
    go true true = round-neg N c
    go true false = twice
    go false true = twice
    go false false = round-neg N c

pub mul-neg-neg : (x : Float) → mul binary64 (neg x) (neg x) ≡ mul binary64 x x
unfolding mul neg
mul-neg-neg nan = refl
mul-neg-neg (inf true) = refl
mul-neg-neg (inf false) = refl
mul-neg-neg (fin true m e) = refl
mul-neg-neg (fin false m e) = refl

neg-F : (s : Bool) (b : ℕ) → b ≤ INF → neg (F s b) ≡ F (not s) b
neg-F true b h = ap neg (F-neg b (in_top b h)) ∙ neg-neg (F false b)
neg-F false b h = sym (F-neg b (in_top b h))

step-neg : (s : Bool) (b : ℕ) → (down_s (not s) b ≡ not (up_s s b)) × (down_i (not s) b ≡ up_i s b)
step-neg true zero = (refl, refl)
step-neg true (suc b) = (refl, refl)
step-neg false b = (refl, refl)

pub down-of-neg : (r : Float) → T (fits binary64 r) → T (not (is_nan r)) → next_down (neg r) ≡ neg (next_up r)
down-of-neg r f h =
    let v = view r f h in
    let s = v.sign in
    let b = v.index in
    let e = step-neg s b in
    ap (λ (z : Float). next_down (neg z)) v.is
    ∙ ap next_down (neg-F s b v.within)
    ∙ down_is (not s) b v.within
    ∙ ap (λ (t : Bool). F t (down_i (not s) b)) e.0
    ∙ ap (λ (i : ℕ). F (not (up_s s b)) i) e.1
    ∙ sym (neg-F (up_s s b) (up_i s b) (up_i-in s b v.within))
    ∙ ap neg (sym (ap next_up v.is ∙ up_is s b v.within))

neg-lower' : (D : ℕ) (x : Float) (p n : ℕ) → Lower D (neg x) n p → Upper D x p n
neg-lower' D x p n h = subst (λ (z : Float). Upper D z p n) (neg-neg x) (neg-upper D (neg x) n p h)

num-neg : (r : Float) → T (not (is_nan r)) → T (not (is_nan (neg r)))
unfolding neg is_nan
num-neg nan h = h
num-neg (inf s) h = h
num-neg (fin s m e) h = h

-- a lower bound of -V that comes from -r is an upper bound of V from r
high-of-low : (D : ℕ) (r : Float) (p n : ℕ) → T (fits binary64 r) → Low D (neg r) n p → High D r p n
high-of-low D r p n f h k = neg-lower' D (next_up r) p n (subst (λ (z : Float). Lower D z n p) (down-of-neg r f k) (h (num-neg r k)))

-- ---- a product's lower bound, the first factor finite
module _ (D E p n q m : ℕ) where
  -- a * B ≤ A * B
  abbrev pub First : Float → Type 0
  First x = (plus x * D + n * ONE) * q + (p * ONE + minus x * D) * m ≤ (p * ONE + minus x * D) * q + (plus x * D + n * ONE) * m

  -- a * b ≤ a * B
  abbrev pub Second : Float → Float → Type 0
  Second x y = minus x * (q * ONE + minus y * E) + plus x * (plus y * E + m * ONE) ≤ plus x * (q * ONE + minus y * E) + minus x * (plus y * E + m * ONE)

  pub prod-low : (x y : Float) → T (fits binary64 x) → T (fits binary64 y) → T (finite x) → T (finite y) → First x → Second x y
      → Lower (D * E) (next_down (mul binary64 x y)) (p * q + n * m) (p * m + n * q)
  prod-low x y f g i j h k =
      lower_mono (next_down (mul binary64 x y)) (ONE * ONE) (D * E) (plus x * plus y + minus x * minus y) (plus x * minus y + minus x * plus y) (p * q + n * m) (p * m + n * q)
      (mul-pos one-pos one-pos) (join-low (plus x) (minus x) (plus y) (minus y) p n q m D E ONE h k) (near_mul x y f g i j).below

  LowP : Float → Type 0
  LowP r = Low (D * E) r (p * q + n * m) (p * m + n * q)

  -- an infinity that is negative, or a NaN
  maybe-ninf : (z : Bool) → LowP (cond z nan (inf true))
  unfolding LowP is_nan
  maybe-ninf true = λ h. absurd h
  maybe-ninf false = λ _. low-inf (D * E) (p * q + n * m) (p * m + n * q)

  -- a is not negative: b is a lower bound of B
  fin-pos : (k : ℕ) (e : ℤ) (y : Float) → T (fits binary64 (fin false k e)) → T (fits binary64 y) → First (fin false k e) → Lower E y q m → LowP (mul binary64 (fin false k e) y)
  unfolding LowP mul
  fin-pos k e nan f g h l = absurd l
  fin-pos k e (inf true) f g h l = maybe-ninf (eqb k 0)
  fin-pos k e (inf false) f g h l = absurd l
  fin-pos k e (fin t r d) f g h l =
      λ _. prod-low (fin false k e) (fin t r d) f g tt tt h
      (rearrange 0 (plus (fin false k e)) (plus (fin t r d) * E + m * ONE) (q * ONE + minus (fin t r d) * E) zero-le l)

  -- a is not positive: b is an upper bound of B
  fin-neg : (k : ℕ) (e : ℤ) (y : Float) → T (fits binary64 (fin true k e)) → T (fits binary64 y) → First (fin true k e) → Upper E y q m → LowP (mul binary64 (fin true k e) y)
  unfolding LowP mul
  fin-neg k e nan f g h l = absurd l
  fin-neg k e (inf true) f g h l = absurd l
  fin-neg k e (inf false) f g h l = maybe-ninf (eqb k 0)
  fin-neg k e (fin t r d) f g h l =
      λ _. prod-low (fin true k e) (fin t r d) f g tt tt h
      (let w = rearrange 0 (minus (fin true k e)) (q * ONE + minus (fin t r d) * E) (plus (fin t r d) * E + m * ONE) zero-le l in omega arith)

  either : (s : Bool) (k : ℕ) (e : ℤ) (y y' : Float) → T (fits binary64 (fin s k e)) → T (fits binary64 y) → T (fits binary64 y') → First (fin s k e) → Lower E y q m → Upper E y' q m
      → LowP (mul binary64 (fin s k e) y) ⊎ LowP (mul binary64 (fin s k e) y')
  either false k e y y' f g g' h l u = inl (fin-pos k e y f g h l)
  either true k e y y' f g g' h l u = inr (fin-neg k e y' f g' h u)

  -- ---- the first factor an infinity. A second factor on the wrong side of zero is a zero, and the product a NaN
  no-units : (s : Bool) (k : ℕ) (e : ℤ) → 0 < E → T (fits binary64 (fin s k e)) → units (fin s k e) * E ≤ 0 → T (eqb k 0)
  no-units s k e E_pos f h = eq→eqb (zero_of k (units (fin s k e)) (own s k e f) (none (units (fin s k e)) h))
    where
      none : (u : ℕ) → u * E ≤ 0 → u ≡ 0
      none zero h = refl
      none (suc u) h = absurd (not-le_of_lt (mul-pos (zero-lt-suc u) E_pos) h)

      zero_of : (k u : ℕ) → k * up e * ONE ≡ u * down e → u ≡ 0 → k ≡ 0
      zero_of zero u h z = refl
      zero_of (suc k) u h z = absurd (lt_irrefl 0 (subst (λ (w : ℕ). 0 < w) (h ∙ ap (λ (w : ℕ). w * down e) z ∙ zero-mul (down e)) (mul-pos (mul-pos (zero-lt-suc k) (up_pos e)) one-pos)))

  wrong : (z : Bool) → T z → LowP (cond z nan (inf false))
  unfolding LowP is_nan
  wrong true t = λ h. absurd h
  wrong false t = absurd t

  -- -infinity times an upper bound of a B that is not negative
  ninf-times : (y : Float) → 0 < E → m ≤ q → T (fits binary64 y) → Upper E y q m → LowP (mul binary64 (inf true) y)
  unfolding LowP mul
  ninf-times nan E_pos o g l = absurd l
  ninf-times (inf true) E_pos o g l = absurd l
  ninf-times (inf false) E_pos o g l = λ _. low-inf (D * E) (p * q + n * m) (p * m + n * q)
  ninf-times (fin false k e) E_pos o g l = maybe-ninf (eqb k 0)
  ninf-times (fin true k e) E_pos o g l = wrong (eqb k 0) (no-units true k e E_pos g (let w = mul-le-mul_right ONE o in omega arith))

  -- +infinity times a lower bound of a B that is not positive
  pinf-times : (y : Float) → 0 < E → q ≤ m → T (fits binary64 y) → Lower E y q m → LowP (mul binary64 (inf false) y)
  unfolding LowP mul
  pinf-times nan E_pos o g l = absurd l
  pinf-times (inf false) E_pos o g l = absurd l
  pinf-times (inf true) E_pos o g l = λ _. low-inf (D * E) (p * q + n * m) (p * m + n * q)
  pinf-times (fin true k e) E_pos o g l = maybe-ninf (eqb k 0)
  pinf-times (fin false k e) E_pos o g l = wrong (eqb k 0) (no-units false k e E_pos g (let w = mul-le-mul_right ONE o in omega arith))

  -- ---- B is not negative: a lower bound of A. B is not positive: an upper bound of A
  by-low : (x y y' : Float) → 0 < E → m ≤ q → T (fits binary64 x) → T (fits binary64 y) → T (fits binary64 y') → Lower D x p n → Lower E y q m → Upper E y' q m
      → LowP (mul binary64 x y) ⊎ LowP (mul binary64 x y')
  by-low nan y y' E_pos o f g g' h l u = absurd h
  by-low (inf false) y y' E_pos o f g g' h l u = absurd h
  by-low (inf true) y y' E_pos o f g g' h l u = inr (ninf-times y' E_pos o g' u)
  by-low (fin s k e) y y' E_pos o f g g' h l u =
      let x = fin s k e in
      either s k e y y' f g g' (rearrange (plus x * D + n * ONE) (p * ONE + minus x * D) m q h o) l u

  by_high : (x y y' : Float) → 0 < E → q ≤ m → T (fits binary64 x) → T (fits binary64 y) → T (fits binary64 y') → Upper D x p n → Lower E y q m → Upper E y' q m
      → LowP (mul binary64 x y) ⊎ LowP (mul binary64 x y')
  by_high nan y y' E_pos o f g g' h l u = absurd h
  by_high (inf true) y y' E_pos o f g g' h l u = absurd h
  by_high (inf false) y y' E_pos o f g g' h l u = inl (pinf-times y E_pos o g l)
  by_high (fin s k e) y y' E_pos o f g g' h l u =
      let x = fin s k e in
      let w = rearrange (p * ONE + minus x * D) (plus x * D + n * ONE) q m h o in
      either s k e y y' f g g' (omega arith) l u

  -- one of the four products is a lower bound of A * B
  mul_low : (x x' y y' : Float) → 0 < E → T (fits binary64 x) → T (fits binary64 x') → T (fits binary64 y) → T (fits binary64 y')
      → Lower D x p n → Upper D x' p n → Lower E y q m → Upper E y' q m
      → Any LowP (mul binary64 x y) (mul binary64 x y') (mul binary64 x' y) (mul binary64 x' y')
  mul_low x x' y y' E_pos f f' g g' h h' l u = elim (le-or-lt m q) [
    | inl o ↦ inl (by-low x y y' E_pos o f g g' h l u)
    | inr o ↦ inr (by_high x' y y' E_pos (le_of_lt o) f' g g' h' l u)
  ]

-- ---- and one is an upper bound: the lower bound of (-A) * B
module _ (D E p n q m : ℕ) where
  HighP : Float → Type 0
  HighP r = High (D * E) r (p * q + n * m) (p * m + n * q)

  turn : (x y : Float) → LowP D E n p q m (mul binary64 (neg x) y) → HighP (mul binary64 x y)
  unfolding LowP HighP
  turn x y h =
      high-of-low (D * E) (mul binary64 x y) (p * q + n * m) (p * m + n * q) (mul-fits binary64 x y)
      (subst (λ (r : Float). Low (D * E) r (p * m + n * q) (p * q + n * m)) (mul-neg x y)
      (subst (λ (z : ℕ). Low (D * E) (mul binary64 (neg x) y) z (p * q + n * m)) (add_comm (n * q) (p * m))
      (subst (λ (z : ℕ). Low (D * E) (mul binary64 (neg x) y) (n * q + p * m) z) (add_comm (n * m) (p * q)) h)))

  mul-high : (x x' y y' : Float) → 0 < E → T (fits binary64 x) → T (fits binary64 x') → T (fits binary64 y) → T (fits binary64 y')
      → Lower D x p n → Upper D x' p n → Lower E y q m → Upper E y' q m
      → Any HighP (mul binary64 x y) (mul binary64 x y') (mul binary64 x' y) (mul binary64 x' y')
  mul-high x x' y y' E_pos f f' g g' h h' l u =
      elim (mul_low D E n p q m (neg x') (neg x) y y' E_pos (neg-fits binary64 x' f') (neg-fits binary64 x f) g g' (neg-lower D x' p n h') (neg-upper D x p n h) l u) [
        | inl a ↦ inr (elim a [ inl k ↦ inl (turn x' y k) | inr k ↦ inr (turn x' y' k) ])
        | inr a ↦ inl (elim a [ inl k ↦ inl (turn x y k) | inr k ↦ inr (turn x y' k) ])
      ]

-- ---- the interval
pub down-num : (x : Float) → T (not (is_nan (next_down x))) → T (not (is_nan x))
unfolding next_down is_nan
down-num nan h = h
down-num (inf s) h = tt
down-num (fin s m e) h = tt

pub up-num : (x : Float) → T (not (is_nan (next_up x))) → T (not (is_nan x))
unfolding next_up is_nan
up-num nan h = h
up-num (inf s) h = tt
up-num (fin s m e) h = tt

pub in-mul : (D E : ℕ) (x y : Interval) (p n q m : ℕ) → 0 < E → In D x p n → In E y q m → In (D * E) (mul_i x y) (p * q + n * m) (p * m + n * q)
unfolding LowP HighP mul_i
in-mul D E x y p n q m E_pos h k =
    let a = mul binary64 x.lo y.lo in
    let b = mul binary64 x.lo y.hi in
    let c = mul binary64 x.hi y.lo in
    let d = mul binary64 x.hi y.hi in
    let fa = mul-fits binary64 x.lo y.lo in
    let fb = mul-fits binary64 x.lo y.hi in
    let fc = mul-fits binary64 x.hi y.lo in
    let fd = mul-fits binary64 x.hi y.hi in
    let P = p * q + n * m in
    let N = p * m + n * q in
    checked-in (D * E) P N (next_down (least4 a b c d)) (next_up (greatest4 a b c d)) (down_fits (least4 a b c d)) (up_fits (greatest4 a b c d))
    (λ t. least4-low (D * E) P N a b c d fa fb fc fd
    (mul_low D E p n q m x.lo x.hi y.lo y.hi E_pos h.lo-held h.hi-held k.lo-held k.hi-held h.low h.high k.low k.high) (down-num (least4 a b c d) t))
    (λ t. greatest4-high (D * E) P N a b c d fa fb fc fd
    (mul-high D E p n q m x.lo x.hi y.lo y.hi E_pos h.lo-held h.hi-held k.lo-held k.hi-held h.low h.high k.low k.high) (up-num (greatest4 a b c d) t))
