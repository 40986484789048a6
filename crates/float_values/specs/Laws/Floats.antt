-- The order of finite floats is that of their numbers, both ways. Assumes nothing.
use Rattle.std.specs.Prelude.{◌≡◌, refl, ◌↔◌, ℕ, ◌+◌, ◌*◌, ◌≤◌, Bool, true, false, ◌||◌, ◌&&◌, T, ltb, eqb, ℤ, Float}
use Rattle.std.proofs.Common.{sym, ◌∙◌, inl, inr, zero-le, eq-or-lt_of_le, add-mul, zero-mul, mul-le-mul_right, le_of_mul-le-mul_right, arith, lt→ltb}
use Rattle.std.specs.Float.{nan, inf, fin, binary64}
use Rattle.std.specs.Float.Ieee.{fits, up, down, le}
use Rattle.std.specs.Float.Ieee.Fits.{eq→eqb, and_i}
use Rattle.std.specs.Float.Ieee.Exact.{HasValue}
use Rattle.std.specs.Float.Ieee.Order.{transfer}
use Rattle.std.specs.Float.Ieee.Scale.{finite}
use Rattle.float_order.specs.Extremes.{zero_f}
use Rattle.float_values.specs.Value.{ONE, units}
use Rattle.float_values.specs.Laws.Small.{or_left, or_right}
use Rattle.float_values.specs.Laws.Pairs.{plus, minus, Lower, Upper}
use Rattle.float_values.specs.Laws.Central.{one-pos, le-values}
use Rattle.float_values.specs.Laws.Near.{own}
use Rattle.float_values.specs.Laws.Order.{both_negative, both_zero}

-- ---- from the program's order
has-own : (s : Bool) (m : ℕ) (e : ℤ) → T (fits binary64 (fin s m e)) → HasValue (fin s m e) s (units (fin s m e)) ONE
has-own s m e f = (refl, own s m e f)

pub numbers : (x y : Float) → T (fits binary64 x) → T (fits binary64 y) → T (finite x) → T (finite y) → T (le x y) → plus x + minus y ≤ plus y + minus x
numbers nan y f g i j h = absurd i
numbers (inf s) y f g i j h = absurd i
numbers (fin s m e) nan f g i j h = absurd j
numbers (fin s m e) (inf t) f g i j h = absurd j
numbers (fin false m e) (fin false n d) f g i j h = let w = le-values (fin false m e) (fin false n d) _ _ (has-own false m e f) (has-own false n d g) h in omega arith
numbers (fin false m e) (fin true n d) f g i j h = let w = both_zero (fin false m e) (fin true n d) _ _ (has-own false m e f) (has-own true n d g) h in omega arith
numbers (fin true m e) (fin false n d) f g i j h = omega arith
numbers (fin true m e) (fin true n d) f g i j h = let w = both_negative (fin true m e) (fin true n d) _ _ (has-own true m e f) (has-own true n d g) h in omega arith

-- ---- to the program's order
-- the tests that `le` makes, by the signs
test-pp : (a b : ℕ) → a ≤ b → T (ltb a b || (eqb a b && true))
test-pp a b h = elim (eq-or-lt_of_le h) [ inl e ↦ or_right (ltb a b) (eqb a b && true) (and_i (eqb a b) true (eq→eqb e) tt) | inr l ↦ or_left (ltb a b) (eqb a b && true) (lt→ltb a b l) ]

test-nn : (a b : ℕ) → b ≤ a → T (ltb b a || (eqb a b && true))
test-nn a b h = elim (eq-or-lt_of_le h) [ inl e ↦ or_right (ltb b a) (eqb a b && true) (and_i (eqb a b) true (eq→eqb (sym e)) tt) | inr l ↦ or_left (ltb b a) (eqb a b && true) (lt→ltb b a l) ]

test-np : (a b : ℕ) → T (ltb 0 (a + b) || (eqb a b && eqb a 0))
test-np a b = elim (eq-or-lt_of_le (zero-le {n = a + b})) [
  | inl z ↦
      let ab : a ≡ b = omega arith in
      let a0 : a ≡ 0 = omega arith in
      or_right (ltb 0 (a + b)) (eqb a b && eqb a 0) (and_i (eqb a b) (eqb a 0) (eq→eqb ab) (eq→eqb a0))
  | inr l ↦ or_left (ltb 0 (a + b)) (eqb a b && eqb a 0) (lt→ltb 0 (a + b) l)
]

test-pn : (a b : ℕ) → a ≤ 0 → b ≤ 0 → T (eqb a b && eqb a 0)
test-pn a b h k =
    let ab : a ≡ b = omega arith in
    let a0 : a ≡ 0 = omega arith in
    and_i (eqb a b) (eqb a 0) (eq→eqb ab) (eq→eqb a0)

-- X units are M / de and Y units are N / dd
crossed : (M N X Y de dd : ℕ) → M * ONE ≡ X * de → N * ONE ≡ Y * dd → X ≤ Y → M * dd ≤ N * de
crossed M N X Y de dd p q h = transfer M N de dd X Y ONE ONE one-pos one-pos p q (mul-le-mul_right ONE h)

no_size : (M X de dd : ℕ) → M * ONE ≡ X * de → X ≤ 0 → M * dd ≤ 0
no_size M X de dd p h = let w = crossed M 0 X 0 de dd p (zero-mul ONE ∙ sym (zero-mul dd)) h in let z = zero-mul de in omega arith

pub neg-le-zero : (k : ℕ) (e : ℤ) → T (le (fin true k e) zero_f)
unfolding le
neg-le-zero k e = test-np (k * up e * 1) (0 * down e)

pub of-numbers : (x y : Float) → T (fits binary64 x) → T (fits binary64 y) → T (finite x) → T (finite y) → plus x + minus y ≤ plus y + minus x → T (le x y)
unfolding le
of-numbers nan y f g i j h = absurd i
of-numbers (inf s) y f g i j h = absurd i
of-numbers (fin s m e) nan f g i j h = absurd j
of-numbers (fin s m e) (inf t) f g i j h = absurd j
of-numbers (fin false m e) (fin false n d) f g i j h =
    test-pp (m * up e * down d) (n * up d * down e) (crossed (m * up e) (n * up d) (units (fin false m e)) (units (fin false n d)) (down e) (down d) (own false m e f) (own false n d g) (omega arith))
of-numbers (fin false m e) (fin true n d) f g i j h =
    test-pn (m * up e * down d) (n * up d * down e) (no_size (m * up e) (units (fin false m e)) (down e) (down d) (own false m e f) (omega arith)) (no_size (n * up d) (units (fin true n d)) (down d) (down e) (own true n d g) (omega arith))
of-numbers (fin true m e) (fin false n d) f g i j h = test-np (m * up e * down d) (n * up d * down e)
of-numbers (fin true m e) (fin true n d) f g i j h =
    test-nn (m * up e * down d) (n * up d * down e) (crossed (n * up d) (m * up e) (units (fin true n d)) (units (fin true m e)) (down d) (down e) (own true n d g) (own true m e f) (omega arith))

-- ---- the bounds
scaled : (a b c d : ℕ) → a + b ≤ c + d → a * ONE + b * ONE ≤ c * ONE + d * ONE
scaled a b c d h = let w = mul-le-mul_right ONE h in let u = add-mul a b ONE in let v = add-mul c d ONE in omega arith

unscaled : (a b c d : ℕ) → a * ONE + b * ONE ≤ c * ONE + d * ONE → a + b ≤ c + d
unscaled a b c d h = le_of_mul-le-mul_right {k = ONE} (let u = add-mul a b ONE in let v = add-mul c d ONE in omega arith) one-pos

pub low_float : (x a : Float) → T (fits binary64 x) → T (fits binary64 a) → T (finite a) → T (le x a) ↔ Lower ONE x (plus a) (minus a)
unfolding le
low_float x nan f g j = absurd j
low_float x (inf t) f g j = absurd j
low_float nan (fin t n d) f g j = (λ h. h, λ h. h)
low_float (inf true) (fin t n d) f g j = (λ h. tt, λ h. tt)
low_float (inf false) (fin t n d) f g j = (λ h. h, λ h. h)
low_float (fin s m e) (fin t n d) f g j =
    let x = fin s m e in
    let a = fin t n d in
    (λ h. scaled (plus x) (minus a) (plus a) (minus x) (numbers x a f g tt tt h), λ h. of-numbers x a f g tt tt (unscaled (plus x) (minus a) (plus a) (minus x) h))

pub high-float : (x a : Float) → T (fits binary64 x) → T (fits binary64 a) → T (finite a) → T (le a x) ↔ Upper ONE x (plus a) (minus a)
unfolding le
high-float x nan f g j = absurd j
high-float x (inf t) f g j = absurd j
high-float nan (fin t n d) f g j = (λ h. h, λ h. h)
high-float (inf true) (fin t n d) f g j = (λ h. h, λ h. h)
high-float (inf false) (fin t n d) f g j = (λ h. tt, λ h. tt)
high-float (fin s m e) (fin t n d) f g j =
    let x = fin s m e in
    let a = fin t n d in
    (λ h. scaled (plus a) (minus x) (plus x) (minus a) (numbers a x g f tt tt h), λ h. of-numbers a x g f tt tt (unscaled (plus a) (minus x) (plus x) (minus a) h))
