-- What the intervals promise. `Holds k x A` says that the exact number A / 2 ^ k lies in the interval x, a bound that is infinite bounding nothing (`Value.antt`).
-- A finite float is a number at the scale 1074. A sum and a difference keep the scale, and a product adds the scales. Assumes nothing.
use Rattle.std.specs.Prelude.{ℕ, ◌+◌, ◌*◌, ◌^◌, ◌≡◌, ◌↔◌, Bool, true, false, not, T, ℤ, pos, neg_ℤ, ◌+ℤ◌, ◌-ℤ◌, ◌*ℤ◌, Float}
use Rattle.std.proofs.Common.{sym, subst, pow_pos, pow-add}
use Rattle.std.specs.Float.{inf, fin, binary64}
use Rattle.std.specs.Float.Ieee.{fits, is_nan, up, down, le, lt}
use Rattle.std.specs.Float.Ieee.Fits.{and_l, and_r}
use Rattle.std.specs.Float.Ieee.Scale.{finite}
use Rattle.interval_arithmetic.specs.declared.Interval.{Interval}
use Rattle.interval_vectors.specs.declared.Interval3.{Interval3}
use Rattle.float_vectors.specs.declared.vector.Point3.{Point3}
use Rattle.float_vectors.specs.declared.vector.Vec3.{Vec3}
use Rattle.interval_arithmetic.specs.Ops.{point_i, add_i, sub_i, mul_i, neg_i, contains_i, sqr_i, sign_i}
use Rattle.interval_vectors.specs.Vectors.{difference_i, point_i3, vector_i, dot_i}
use Rattle.float_values.specs.Value.{ONE, units, value, Real}
use Rattle.interval_enclosure.specs.Value.{Holds, Whole3, minus_w, dot_w, value_p, value_v, RealP, RealV, Holds3, SignOf}
use Rattle.float_values.specs.Laws.Pairs.{plus, minus, over, under}
use Rattle.interval_enclosure.specs.Laws.Pairs.{In}
use Rattle.float_values.specs.Laws.Near.{own}
use Rattle.interval_enclosure.specs.Laws.Floats.{in_float}
use Rattle.float_order.specs.Next.{next_up, next_down}
use Rattle.float_values.specs.Laws.Adjacent as Adjacent
use Rattle.interval_enclosure.specs.Laws.Sums.{in-add, in-sub, in-neg, in-point}
use Rattle.interval_enclosure.specs.Laws.Products.{in-mul}
use Rattle.interval_enclosure.specs.Laws.Squares.{in-sqr, sign-says}
use Rattle.float_values.specs.Laws.Integers.{sum-parts, diff-parts, neg-parts, product-parts, over-scaled, under-scaled, over-value, under-value}
use Rattle.interval_enclosure.proofs.Laws.Integers.{to_in, of-in, in-rescaled, says-sign}

pub add-encloses : (k : ℕ) (x y : Interval) (A B : ℤ) → Holds k x A → Holds k y B → Holds k (add_i x y) (A +ℤ B)
add-encloses k x y A B h g =
    of-in k (add_i x y) (over A + over B) (under A + under B) (A +ℤ B) (sum-parts A B)
    (in-add (2 ^ k) x y (over A) (under A) (over B) (under B) (to_in k x A h) (to_in k y B g))

pub sub-encloses : (k : ℕ) (x y : Interval) (A B : ℤ) → Holds k x A → Holds k y B → Holds k (sub_i x y) (A -ℤ B)
sub-encloses k x y A B h g =
    of-in k (sub_i x y) (over A + under B) (under A + over B) (A -ℤ B) (diff-parts A B)
    (in-sub (2 ^ k) x y (over A) (under A) (over B) (under B) (to_in k x A h) (to_in k y B g))

pub mul-encloses : (j k : ℕ) (x y : Interval) (A B : ℤ) → Holds j x A → Holds k y B → Holds (j + k) (mul_i x y) (A *ℤ B)
mul-encloses j k x y A B h g =
    of-in (j + k) (mul_i x y) (over A * over B + under A * under B) (over A * under B + under A * over B) (A *ℤ B) (product-parts A B)
    (subst (λ (D : ℕ). In D (mul_i x y) (over A * over B + under A * under B) (over A * under B + under A * over B)) (sym (pow-add 2 j k))
    (in-mul (2 ^ j) (2 ^ k) x y (over A) (under A) (over B) (under B) (pow_pos k) (to_in j x A h) (to_in k y B g)))

pub neg-encloses : (k : ℕ) (x : Interval) (A : ℤ) → Holds k x A → Holds k (neg_i x) (neg_ℤ A)
neg-encloses k x A h = of-in k (neg_i x) (under A) (over A) (neg_ℤ A) (neg-parts A) (in-neg (2 ^ k) x (over A) (under A) (to_in k x A h))

pub sqr-encloses : (k : ℕ) (x : Interval) (A : ℤ) → Holds k x A → Holds (k + k) (sqr_i x) (A *ℤ A)
sqr-encloses k x A h =
    of-in (k + k) (sqr_i x) (over A * over A + under A * under A) (over A * under A + under A * over A) (A *ℤ A) (product-parts A A)
    (subst (λ (D : ℕ). In D (sqr_i x) (over A * over A + under A * under A) (over A * under A + under A * over A)) (sym (pow-add 2 k k))
    (in-sqr (2 ^ k) x (over A) (under A) (pow_pos k) (to_in k x A h)))

-- the same number at a finer scale
pub rescaled : (j k : ℕ) (x : Interval) (A : ℤ) → Holds k x A → Holds (k + j) x (A *ℤ pos (2 ^ j))
rescaled j k x A h =
    of-in (k + j) x (over A * 2 ^ j) (under A * 2 ^ j) (A *ℤ pos (2 ^ j)) (rw (over-scaled A (2 ^ j), under-scaled A (2 ^ j)))
    (subst (λ (D : ℕ). In D x (over A * 2 ^ j) (under A * 2 ^ j)) (sym (pow-add 2 k j)) (in-rescaled (2 ^ k) (2 ^ j) x (over A) (under A) (pow_pos k) (to_in k x A h)))

-- a sign that is resolved is that of every number in the interval
pub sign-is : (k : ℕ) (x : Interval) (A : ℤ) → Holds k x A → SignOf (sign_i x) A
sign-is k x A h = says-sign (sign_i x) A (sign-says (2 ^ k) x (over A) (under A) (pow_pos k) (to_in k x A h))

-- ---- the numbers that floats are
at-1074 : (x : Interval) (a : Float) → In ONE x (plus a) (minus a) → Holds 1074 x (value a)
unfolding ONE
at-1074 x a h = of-in 1074 x (plus a) (minus a) (value a) (parts a) h
  where
    parts : (a : Float) → plus a + under (value a) ≡ over (value a) + minus a
    parts a = rw (over-value a, under-value a)

from-1074 : (x : Interval) (a : Float) → Holds 1074 x (value a) → In ONE x (plus a) (minus a)
unfolding ONE
from-1074 x a h = subst (λ (n : ℕ). In (2 ^ 1074) x (plus a) n) (under-value a) (subst (λ (p : ℕ). In (2 ^ 1074) x p (under (value a))) (over-value a) (to_in 1074 x (value a) h))

pub point-holds : (a : Float) → Real a → Holds 1074 (point_i a) (value a)
point-holds a r = at-1074 (point_i a) a (in-point a (and_l (fits binary64 a) (finite a) r) (and_r (fits binary64 a) (finite a) r))

-- ---- vectors: a difference of points keeps the scale of floats, and a dot product adds the scales
pub point3-holds : (v : Vec3) → RealV v → Holds3 1074 (point_i3 v) (value_v v)
unfolding point_i3
point3-holds v r = record { x = point-holds v.x r.x; y = point-holds v.y r.y; z = point-holds v.z r.z }

pub dot-encloses : (j k : ℕ) (a b : Interval3) (A B : Whole3) → Holds3 j a A → Holds3 k b B → Holds (j + k) (dot_i a b) (dot_w A B)
unfolding dot_i
dot-encloses j k a b A B h g =
    add-encloses (j + k) _ _ _ _
    (add-encloses (j + k) _ _ _ _ (mul-encloses j k _ _ _ _ h.x g.x) (mul-encloses j k _ _ _ _ h.y g.y))
    (mul-encloses j k _ _ _ _ h.z g.z)

-- `units` cuts nothing off a float that `f64` holds: m * 2 ^ e is units / 2 ^ 1074
pub units-exact : (s : Bool) (m : ℕ) (e : ℤ) → T (fits binary64 (fin s m e)) → m * up e * ONE ≡ units (fin s m e) * down e
units-exact = own

-- A finite float a lies between the bounds by the program's own `<=` exactly if the interval holds its number.
pub float_in : (x : Interval) (a : Float) → T (fits binary64 x.lo) → T (fits binary64 x.hi) → Real a → T (contains_i x a) ↔ Holds 1074 x (value a)
float_in x a f g r =
    let i = and_l (fits binary64 a) (finite a) r in
    let j = and_r (fits binary64 a) (finite a) r in
    (λ t. at-1074 x a ((in_float x a f g i j).0 t), λ h. (in_float x a f g i j).1 (from-1074 x a h))

-- ---- a step, in the program's own order: to the next float above x, or below, and past no other
pub up_least : (x y : Float) → T (fits binary64 x) → T (fits binary64 y) → T (lt x y) → T (le (next_up x) y)
up_least = Adjacent.up_least

pub up_above : (x : Float) → T (fits binary64 x) → T (not (is_nan x)) → (x ≡ inf false → ⊥) → T (lt x (next_up x))
up_above = Adjacent.up_above

pub down-greatest : (x y : Float) → T (fits binary64 x) → T (fits binary64 y) → T (lt x y) → T (le x (next_down y))
down-greatest = Adjacent.down-greatest

pub down-below : (x : Float) → T (fits binary64 x) → T (not (is_nan x)) → (x ≡ inf true → ⊥) → T (lt (next_down x) x)
down-below = Adjacent.down-below
