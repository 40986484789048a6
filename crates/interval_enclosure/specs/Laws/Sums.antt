-- The sum and the difference of two intervals hold the exact sum and the exact difference of any two numbers that the intervals hold. Assumes nothing.
use Rattle.std.specs.Prelude.{◌≡◌, refl, ℕ, ◌+◌, ◌-◌, ◌*◌, Bool, true, false, not, cond, T, Float}
use Rattle.std.proofs.Common.{sym, ap, ◌∙◌, subst, add-mul, le_refl, le_of_eq, arith}
use Rattle.std.proofs.lemmas.Bool.{false≢true}
use Rattle.std.specs.Float.{nan, inf, fin, binary64}
use Rattle.std.specs.Float.Ieee.{fits, is_nan, neg, add, of_bits, to_bits}
use Rattle.std.specs.Float.Ieee.Fits.{cond-fits, nan-fits, inf-fits, neg-fits, add-fits}
use Rattle.std.specs.Float.Ieee.Scale.{finite}
use Rattle.std.specs.Float.Ieee.Bits.{of_bits-fits}
use Rattle.interval_arithmetic.specs.declared.Interval.{Interval}
use Rattle.float_order.specs.Next.{up_bits, down_bits, next_up, next_down}
use Rattle.float_exact.specs.Exact.{exact_sum}
use Rattle.float_exact.proofs.Laws.{exact-finite, exact-adds}
use Rattle.interval_arithmetic.specs.Ops.{entire, checked_i, point_i, low_sum, high_sum, add_i, sub_i, neg_i}
use Rattle.float_values.specs.Value.{ONE}
use Rattle.float_values.specs.Laws.Pairs.{plus, minus, Lower, Upper}
use Rattle.interval_enclosure.specs.Laws.Pairs.{In}
use Rattle.float_values.specs.Laws.Patterns.{F-inf}
use Rattle.float_values.specs.Laws.Steps.{down_inf, up_inf}
use Rattle.float_values.specs.Laws.Central.{one-pos}
use Rattle.float_values.specs.Laws.Near.{near_add, lower_mono, upper_mono}

-- ---- what is common to the operations
pub down_fits : (x : Float) → T (fits binary64 (next_down x))
unfolding next_down
down_fits x = cond-fits binary64 (is_nan x) nan (of_bits binary64 (down_bits (to_bits binary64 x))) (nan-fits binary64) (of_bits-fits binary64 (down_bits (to_bits binary64 x)))

pub up_fits : (x : Float) → T (fits binary64 (next_up x))
unfolding next_up
up_fits x = cond-fits binary64 (is_nan x) nan (of_bits binary64 (up_bits (to_bits binary64 x))) (nan-fits binary64) (of_bits-fits binary64 (up_bits (to_bits binary64 x)))

pub down-ninf : next_down (inf true) ≡ inf true
down-ninf = ap next_down (sym (F-inf true)) ∙ down_inf ∙ F-inf true

pub up-pinf : next_up (inf false) ≡ inf false
up-pinf = ap next_up (sym (F-inf false)) ∙ up_inf ∙ F-inf false

pub low-inf : (D p n : ℕ) → Lower D (next_down (inf true)) p n
low-inf D p n = subst (λ (x : Float). Lower D x p n) (sym down-ninf) tt

pub high-inf : (D p n : ℕ) → Upper D (next_up (inf false)) p n
high-inf D p n = subst (λ (x : Float). Upper D x p n) (sym up-pinf) tt

pub in-entire : (D p n : ℕ) → In D entire p n
in-entire D p n = record { lo-held = inf-fits binary64 true; hi-held = inf-fits binary64 false; low = tt; high = tt }

pub checked-in : (D p n : ℕ) (lo hi : Float) → T (fits binary64 lo) → T (fits binary64 hi)
    → (T (not (is_nan lo)) → Lower D lo p n) → (T (not (is_nan hi)) → Upper D hi p n) → In D (checked_i lo hi) p n
checked-in D p n lo hi f g h k = go (is_nan lo) (is_nan hi) h k
  where
    go : (s t : Bool) → (T (not s) → Lower D lo p n) → (T (not t) → Upper D hi p n) → In D (cond s entire (cond t entire (record { lo = lo; hi = hi }))) p n
    go true t a b = in-entire D p n
    go false true a b = in-entire D p n
    go false false a b = record { lo-held = f; hi-held = g; low = a tt; high = b tt }

-- ---- the sum
pub add_low : (D : ℕ) (x y : Float) (p n p' n' : ℕ) → T (fits binary64 x) → T (fits binary64 y) → Lower D x p n → Lower D y p' n' → Lower D (next_down (add binary64 x y)) (p + p') (n + n')
unfolding add
add_low D nan y p n p' n' f g h k = absurd h
add_low D (inf false) y p n p' n' f g h k = absurd h
add_low D (inf true) nan p n p' n' f g h k = absurd k
add_low D (inf true) (inf true) p n p' n' f g h k = low-inf D (p + p') (n + n')
add_low D (inf true) (inf false) p n p' n' f g h k = absurd k
add_low D (inf true) (fin t m e) p n p' n' f g h k = low-inf D (p + p') (n + n')
add_low D (fin s m e) nan p n p' n' f g h k = absurd k
add_low D (fin s m e) (inf true) p n p' n' f g h k = low-inf D (p + p') (n + n')
add_low D (fin s m e) (inf false) p n p' n' f g h k = absurd k
add_low D (fin s m e) (fin t l d) p n p' n' f g h k =
    let x = fin s m e in
    let y = fin t l d in
    lower_mono (next_down (add binary64 x y)) ONE D (plus x + plus y) (minus x + minus y) (p + p') (n + n') one-pos (simp add-mul (omega arith)) (near_add x y f g tt tt).below

pub add-high : (D : ℕ) (x y : Float) (p n p' n' : ℕ) → T (fits binary64 x) → T (fits binary64 y) → Upper D x p n → Upper D y p' n' → Upper D (next_up (add binary64 x y)) (p + p') (n + n')
unfolding add
add-high D nan y p n p' n' f g h k = absurd h
add-high D (inf true) y p n p' n' f g h k = absurd h
add-high D (inf false) nan p n p' n' f g h k = absurd k
add-high D (inf false) (inf false) p n p' n' f g h k = high-inf D (p + p') (n + n')
add-high D (inf false) (inf true) p n p' n' f g h k = absurd k
add-high D (inf false) (fin t m e) p n p' n' f g h k = high-inf D (p + p') (n + n')
add-high D (fin s m e) nan p n p' n' f g h k = absurd k
add-high D (fin s m e) (inf false) p n p' n' f g h k = high-inf D (p + p') (n + n')
add-high D (fin s m e) (inf true) p n p' n' f g h k = absurd k
add-high D (fin s m e) (fin t l d) p n p' n' f g h k =
    let x = fin s m e in
    let y = fin t l d in
    upper_mono (next_up (add binary64 x y)) ONE D (plus x + plus y) (minus x + minus y) (p + p') (n + n') one-pos (simp add-mul (omega arith)) (near_add x y f g tt tt).above

-- ---- a sum that is exact stays (W-205)

exact-at : (r : Float) (P N : ℕ) → T (finite r) → plus r + N ≡ P + minus r → (Lower ONE r P N) × (Upper ONE r P N)
exact-at nan P N f e = absurd f
exact-at (inf s) P N f e = absurd f
exact-at (fin s m e) P N f q =
    let r = fin s m e in
    let same : plus r * ONE + N * ONE ≡ P * ONE + minus r * ONE = sym (add-mul (plus r) N ONE) ∙ ap (λ k. k * ONE) q ∙ add-mul P (minus r) ONE in
    (le_of_eq same, le_of_eq (sym same))

kept : (x y : Float) → T (exact_sum x y) → (Lower ONE (add binary64 x y) (plus x + plus y) (minus x + minus y)) × (Upper ONE (add binary64 x y) (plus x + plus y) (minus x + minus y))
kept x y t = exact-at (add binary64 x y) (plus x + plus y) (minus x + minus y) (exact-finite x y t).sum (exact-adds x y t)

kept_low : (D : ℕ) (x y : Float) (p n p' n' : ℕ) → T (exact_sum x y) → Lower D x p n → Lower D y p' n' → Lower D (add binary64 x y) (p + p') (n + n')
kept_low D nan y p n p' n' t h k = absurd h
kept_low D (inf s) y p n p' n' t h k = absurd (exact-finite (inf s) y t).first
kept_low D (fin s m e) nan p n p' n' t h k = absurd k
kept_low D (fin s m e) (inf u) p n p' n' t h k = absurd (exact-finite (fin s m e) (inf u) t).second
kept_low D (fin s m e) (fin u l d) p n p' n' t h k =
    let x = fin s m e in
    let y = fin u l d in
    lower_mono (add binary64 x y) ONE D (plus x + plus y) (minus x + minus y) (p + p') (n + n') one-pos (simp add-mul (omega arith)) (kept x y t).0

kept_high : (D : ℕ) (x y : Float) (p n p' n' : ℕ) → T (exact_sum x y) → Upper D x p n → Upper D y p' n' → Upper D (add binary64 x y) (p + p') (n + n')
kept_high D nan y p n p' n' t h k = absurd h
kept_high D (inf s) y p n p' n' t h k = absurd (exact-finite (inf s) y t).first
kept_high D (fin s m e) nan p n p' n' t h k = absurd k
kept_high D (fin s m e) (inf u) p n p' n' t h k = absurd (exact-finite (fin s m e) (inf u) t).second
kept_high D (fin s m e) (fin u l d) p n p' n' t h k =
    let x = fin s m e in
    let y = fin u l d in
    upper_mono (add binary64 x y) ONE D (plus x + plus y) (minus x + minus y) (p + p') (n + n') one-pos (simp add-mul (omega arith)) (kept x y t).1

-- ---- the sum, kept or moved

-- a test that is made holds, or it does not
tested : (b : Bool) → b ≡ true → T b
tested true e = tt
tested false e = absurd (false≢true e)

low_sum_lem : (D : ℕ) (x y : Float) (p n p' n' : ℕ) → T (fits binary64 x) → T (fits binary64 y) → Lower D x p n → Lower D y p' n' → Lower D (low_sum x y) (p + p') (n + n')
low_sum_lem D x y p n p' n' f g h k = go (exact_sum x y) refl
  where
    go : (b : Bool) → exact_sum x y ≡ b → Lower D (cond b (add binary64 x y) (next_down (add binary64 x y))) (p + p') (n + n')
    go true e = kept_low D x y p n p' n' (tested (exact_sum x y) e) h k
    go false e = add_low D x y p n p' n' f g h k

high_sum_lem : (D : ℕ) (x y : Float) (p n p' n' : ℕ) → T (fits binary64 x) → T (fits binary64 y) → Upper D x p n → Upper D y p' n' → Upper D (high_sum x y) (p + p') (n + n')
high_sum_lem D x y p n p' n' f g h k = go (exact_sum x y) refl
  where
    go : (b : Bool) → exact_sum x y ≡ b → Upper D (cond b (add binary64 x y) (next_up (add binary64 x y))) (p + p') (n + n')
    go true e = kept_high D x y p n p' n' (tested (exact_sum x y) e) h k
    go false e = add-high D x y p n p' n' f g h k

low_fits : (x y : Float) → T (fits binary64 (low_sum x y))
low_fits x y = cond-fits binary64 (exact_sum x y) (add binary64 x y) (next_down (add binary64 x y)) (add-fits binary64 x y) (down_fits (add binary64 x y))

high_fits : (x y : Float) → T (fits binary64 (high_sum x y))
high_fits x y = cond-fits binary64 (exact_sum x y) (add binary64 x y) (next_up (add binary64 x y)) (add-fits binary64 x y) (up_fits (add binary64 x y))

pub in-add : (D : ℕ) (x y : Interval) (p n p' n' : ℕ) → In D x p n → In D y p' n' → In D (add_i x y) (p + p') (n + n')
unfolding add_i
in-add D x y p n p' n' h k =
    checked-in D (p + p') (n + n') (low_sum x.lo y.lo) (high_sum x.hi y.hi) (low_fits x.lo y.lo) (high_fits x.hi y.hi)
    (λ _. low_sum_lem D x.lo y.lo p n p' n' h.lo-held k.lo-held h.low k.low)
    (λ _. high_sum_lem D x.hi y.hi p n p' n' h.hi-held k.hi-held h.high k.high)

-- ---- the difference is the sum with -y
pub neg-lower : (D : ℕ) (x : Float) (p n : ℕ) → Upper D x p n → Lower D (neg x) n p
unfolding neg
neg-lower D nan p n h = h
neg-lower D (inf true) p n h = h
neg-lower D (inf false) p n h = h
neg-lower D (fin true m e) p n h = omega arith
neg-lower D (fin false m e) p n h = omega arith

pub neg-upper : (D : ℕ) (x : Float) (p n : ℕ) → Lower D x p n → Upper D (neg x) n p
unfolding neg
neg-upper D nan p n h = h
neg-upper D (inf true) p n h = h
neg-upper D (inf false) p n h = h
neg-upper D (fin true m e) p n h = omega arith
neg-upper D (fin false m e) p n h = omega arith

pub in-sub : (D : ℕ) (x y : Interval) (p n p' n' : ℕ) → In D x p n → In D y p' n' → In D (sub_i x y) (p + n') (n + p')
unfolding sub_i
in-sub D x y p n p' n' h k =
    checked-in D (p + n') (n + p') (low_sum x.lo (neg y.hi)) (high_sum x.hi (neg y.lo)) (low_fits x.lo (neg y.hi)) (high_fits x.hi (neg y.lo))
    (λ _. low_sum_lem D x.lo (neg y.hi) p n n' p' h.lo-held (neg-fits binary64 y.hi k.hi-held) h.low (neg-lower D y.hi p' n' k.high))
    (λ _. high_sum_lem D x.hi (neg y.lo) p n n' p' h.hi-held (neg-fits binary64 y.lo k.lo-held) h.high (neg-upper D y.lo p' n' k.low))

-- ---- -x
pub in-neg : (D : ℕ) (x : Interval) (p n : ℕ) → In D x p n → In D (neg_i x) n p
unfolding neg_i
in-neg D x p n h =
    checked-in D n p (neg x.hi) (neg x.lo) (neg-fits binary64 x.hi h.hi-held) (neg-fits binary64 x.lo h.lo-held)
    (λ _. neg-lower D x.hi p n h.high)
    (λ _. neg-upper D x.lo p n h.low)

-- ---- a point holds its number
pub in-point : (x : Float) → T (fits binary64 x) → T (finite x) → In ONE (point_i x) (plus x) (minus x)
unfolding point_i
in-point nan f h = absurd h
in-point (inf s) f h = absurd h
in-point (fin s m e) f h =
    let x = fin s m e in
    checked-in ONE (plus x) (minus x) x x f f (λ _. le_refl (plus x * ONE + minus x * ONE)) (λ _. le_refl (plus x * ONE + minus x * ONE))
