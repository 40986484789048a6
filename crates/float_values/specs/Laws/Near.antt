-- An exact number and the float that an operation gives for it: `Near D r p n` says that (p - n) / D lies between the floats next to r.
-- So it is of a sum, a difference and a product of two finite floats. Assumes nothing.
use Rattle.std.specs.Prelude.{◌≡◌, refl, Bool, not, cond, T, ltb, Float, ℤ}
use Rattle.std.proofs.Common.{sym, ap, ◌∙◌, subst, inl, inr, le_of_eq, eq-or-lt_of_le, mul-pos, mul_assoc, mul_comm, mul_right_comm, add-mul, zero-mul, mul-zero, sub-add_cancel, mul-div_cancel, mul-le-mul_right, le_of_mul-le-mul_right, true≢false, ltb→lt, nltb→le, lit≤}
use Prim.Native.Nat.{ℕ, zero, suc, ◌+◌, ◌-◌, ◌*◌, ◌/◌, ◌≤◌, ◌<◌}
use Rattle.std.proofs.Math.Nat.{le_of_lt, mul-mul-mul_comm}
use native.Mathlib.Omega.{arith}
use Rattle.std.proofs.Math.Bool.{true, false}
use Rattle.std.specs.Float.{nan, inf, fin}
use Rattle.std.specs.Float.Ieee.{binary64, up, down, round, fits, neg, is_nan, sum, add, sub, mul, unlike}
use Rattle.std.specs.Float.Ieee.Fits.{down_pos, neg-fits}
use Rattle.std.specs.Float.Ieee.Exact.{HasValue}
use Rattle.std.specs.Float.Ieee.Scale.{finite, round_same}
use Rattle.float_order.specs.Next.{INF, next_up, next_down}
use Rattle.float_values.specs.Value.{ONE, units}
use Rattle.float_values.specs.Laws.Pairs.{plus, minus, Lower, Upper}
use Rattle.float_values.specs.Laws.Patterns.{F, val, F-value, F-inf, view}
use Rattle.float_values.specs.Laws.Steps.{down-zero, down_pos as step-pos, down-neg, down_inf, up-zero, up_pos, up_neg, up_inf}
use Rattle.float_values.specs.Laws.Central.{one-pos, round_up, round-down, rounded}

-- ---- the bounds of a float, from its number
pub units-is : (s : Bool) (m : ℕ) (e : ℤ) (v : ℕ) → m * up e * ONE ≡ v * down e → units (fin s m e) ≡ v
units-is s m e v h = ap (λ (z : ℕ). z / down e) h ∙ mul-div_cancel v (down_pos e)

lower-pos : (x : Float) (v D p n : ℕ) → HasValue x false v ONE → v * D + n * ONE ≤ p * ONE → Lower D x p n
lower-pos nan v D p n k h = absurd k
lower-pos (inf s) v D p n k h = absurd k
lower-pos (fin true m e) v D p n k h = absurd (true≢false k.0)
lower-pos (fin false m e) v D p n k h = subst (λ (u : ℕ). u * D + n * ONE ≤ p * ONE + 0 * D) (sym (units-is false m e v k.1)) (omega arith)

lower-neg : (x : Float) (v D p n : ℕ) → HasValue x true v ONE → n * ONE ≤ p * ONE + v * D → Lower D x p n
lower-neg nan v D p n k h = absurd k
lower-neg (inf s) v D p n k h = absurd k
lower-neg (fin false m e) v D p n k h = absurd (true≢false (sym k.0))
lower-neg (fin true m e) v D p n k h = subst (λ (u : ℕ). 0 * D + n * ONE ≤ p * ONE + u * D) (sym (units-is true m e v k.1)) (omega arith)

upper_pos : (x : Float) (v D p n : ℕ) → HasValue x false v ONE → p * ONE ≤ v * D + n * ONE → Upper D x p n
upper_pos nan v D p n k h = absurd k
upper_pos (inf s) v D p n k h = absurd k
upper_pos (fin true m e) v D p n k h = absurd (true≢false k.0)
upper_pos (fin false m e) v D p n k h = subst (λ (u : ℕ). p * ONE + 0 * D ≤ u * D + n * ONE) (sym (units-is false m e v k.1)) (omega arith)

upper-neg : (x : Float) (v D p n : ℕ) → HasValue x true v ONE → p * ONE + v * D ≤ n * ONE → Upper D x p n
upper-neg nan v D p n k h = absurd k
upper-neg (inf s) v D p n k h = absurd k
upper-neg (fin false m e) v D p n k h = absurd (true≢false (sym k.0))
upper-neg (fin true m e) v D p n k h = subst (λ (u : ℕ). p * ONE + u * D ≤ 0 * D + n * ONE) (sym (units-is true m e v k.1)) (omega arith)

-- ---- the same by the sign and the index, an infinity included
pub lower-F-pos : (b D p n : ℕ) → b < INF → val b * D + n * ONE ≤ p * ONE → Lower D (F false b) p n
lower-F-pos b D p n l h = lower-pos (F false b) (val b) D p n (F-value false b l) h

pub lower-F-neg : (b D p n : ℕ) → b ≤ INF → (b < INF → n * ONE ≤ p * ONE + val b * D) → Lower D (F true b) p n
lower-F-neg b D p n l h = elim (eq-or-lt_of_le l) [
  | inl e ↦ subst (λ (x : Float). Lower D x p n) (sym (ap (F true) e ∙ F-inf true)) tt
  | inr k ↦ lower-neg (F true b) (val b) D p n (F-value true b k) (h k)
]

pub upper-F-pos : (b D p n : ℕ) → b ≤ INF → (b < INF → p * ONE ≤ val b * D + n * ONE) → Upper D (F false b) p n
upper-F-pos b D p n l h = elim (eq-or-lt_of_le l) [
  | inl e ↦ subst (λ (x : Float). Upper D x p n) (sym (ap (F false) e ∙ F-inf false)) tt
  | inr k ↦ upper_pos (F false b) (val b) D p n (F-value false b k) (h k)
]

pub upper-F-neg : (b D p n : ℕ) → b < INF → p * ONE + val b * D ≤ n * ONE → Upper D (F true b) p n
upper-F-neg b D p n l h = upper-neg (F true b) (val b) D p n (F-value true b l) h

-- ---- a lower bound of a number is one of each larger number, at any scale
cross : (P M D E U p n p' n' : ℕ) → 0 < D → P * D + n * U ≤ p * U + M * D → p * E + n' * D ≤ p' * D + n * E → P * E + n' * U ≤ p' * U + M * E
cross P M D E U p n p' n' D-pos h k =
    let a : P * D * E + n * U * E ≤ p * U * E + M * D * E = simp (← add-mul) (mul-le-mul_right E h) in
    let b : p * E * U + n' * D * U ≤ p' * D * U + n * E * U = simp (← add-mul) (mul-le-mul_right U k) in
    let e1 : P * D * E ≡ P * E * D = mul_right_comm P D E in
    let e2 : M * D * E ≡ M * E * D = mul_right_comm M D E in
    let e3 : n * U * E ≡ n * E * U = mul_right_comm n U E in
    let e4 : p * U * E ≡ p * E * U = mul_right_comm p U E in
    let e5 : n' * D * U ≡ n' * U * D = mul_right_comm n' D U in
    let e6 : p' * D * U ≡ p' * U * D = mul_right_comm p' D U in
    le_of_mul-le-mul_right (simp add-mul (omega arith)) D-pos

pub lower_mono : (x : Float) (D E p n p' n' : ℕ) → 0 < D → p * E + n' * D ≤ p' * D + n * E → Lower D x p n → Lower E x p' n'
lower_mono nan D E p n p' n' D-pos k h = h
lower_mono (inf true) D E p n p' n' D-pos k h = h
lower_mono (inf false) D E p n p' n' D-pos k h = h
lower_mono (fin s m e) D E p n p' n' D-pos k h = cross (plus (fin s m e)) (minus (fin s m e)) D E ONE p n p' n' D-pos h k

pub upper_mono : (x : Float) (D E p n p' n' : ℕ) → 0 < D → p' * D + n * E ≤ p * E + n' * D → Upper D x p n → Upper E x p' n'
upper_mono nan D E p n p' n' D-pos k h = h
upper_mono (inf true) D E p n p' n' D-pos k h = h
upper_mono (inf false) D E p n p' n' D-pos k h = h
upper_mono (fin s m e) D E p n p' n' D-pos k h =
    let r : minus (fin s m e) * E + p' * ONE ≤ n' * ONE + plus (fin s m e) * E = cross (minus (fin s m e)) (plus (fin s m e)) D E ONE n p n' p' D-pos (omega arith) (omega arith) in
    omega arith

-- ---- within a step
pub record Near (D : ℕ) (r : Float) (p n : ℕ) : Type 0 where
  pub below : Lower D (next_down r) p n
  pub above : Upper D (next_up r) p n

pub near_same : (r : Float) (D E p n p' n' : ℕ) → 0 < D → p * E + n' * D ≡ p' * D + n * E → Near D r p n → Near E r p' n'
near_same r D E p n p' n' D-pos e h = record {
  below = lower_mono (next_down r) D E p n p' n' D-pos (le_of_eq e) h.below;
  above = upper_mono (next_up r) D E p n p' n' D-pos (le_of_eq (sym e)) h.above;
}

below-pos : (N D b : ℕ) → 0 < D → b ≤ INF → round binary64 false N D ≡ F false b → Lower D (next_down (F false b)) N 0
below-pos N D zero D-pos l is = subst (λ (x : Float). Lower D x N 0) (sym down-zero) (lower-F-neg 1 D N 0 (lit≤ tt) (λ _. omega arith))
below-pos N D (suc b) D-pos l is = subst (λ (x : Float). Lower D x N 0) (sym (step-pos b l)) (lower-F-pos b D N 0 l (let k = round-down N D b D-pos is l in omega arith))

above-pos : (N D b : ℕ) → 0 < D → b ≤ INF → round binary64 false N D ≡ F false b → Upper D (next_up (F false b)) N 0
above-pos N D b D-pos l is = elim (eq-or-lt_of_le l) [
  | inl e ↦ subst (λ (x : Float). Upper D x N 0) (sym (ap (λ (z : ℕ). next_up (F false z)) e ∙ up_inf ∙ F-inf false)) tt
  | inr k ↦ subst (λ (x : Float). Upper D x N 0) (sym (up_pos b k)) (upper-F-pos (suc b) D N 0 k (λ g. let w = round_up N D b D-pos is g in omega arith))
]

below-neg : (N D b : ℕ) → 0 < D → b ≤ INF → round binary64 false N D ≡ F false b → Lower D (next_down (F true b)) 0 N
below-neg N D b D-pos l is = elim (eq-or-lt_of_le l) [
  | inl e ↦ subst (λ (x : Float). Lower D x 0 N) (sym (ap (λ (z : ℕ). next_down (F true z)) e ∙ down_inf ∙ F-inf true)) tt
  | inr k ↦ subst (λ (x : Float). Lower D x 0 N) (sym (down-neg b k)) (lower-F-neg (suc b) D 0 N k (λ g. let w = round_up N D b D-pos is g in omega arith))
]

above-neg : (N D b : ℕ) → 0 < D → b ≤ INF → round binary64 false N D ≡ F false b → Upper D (next_up (F true b)) 0 N
above-neg N D zero D-pos l is = subst (λ (x : Float). Upper D x 0 N) (sym up-zero) (upper-F-pos 1 D 0 N (lit≤ tt) (λ _. omega arith))
above-neg N D (suc b) D-pos l is = subst (λ (x : Float). Upper D x 0 N) (sym (up_neg b l)) (upper-F-neg b D 0 N l (let k = round-down N D b D-pos is l in omega arith))

pub near-round : (s : Bool) (N D : ℕ) → 0 < D → Near D (round binary64 s N D) (cond s 0 N) (cond s N 0)
near-round true N D h =
    let r = rounded N D in
    subst (λ (x : Float). Near D x 0 N) (sym (r.is true)) (record { below = below-neg N D r.index h r.within r.size_is; above = above-neg N D r.index h r.within r.size_is })
near-round false N D h =
    let r = rounded N D in
    subst (λ (x : Float). Near D x N 0) (sym (r.is false)) (record { below = below-pos N D r.index h r.within r.size_is; above = above-pos N D r.index h r.within r.size_is })

-- ---- a finite float that `f64` holds is a whole number of units
not-inf : (x : Float) (s : Bool) → T (finite x) → x ≡ inf s → ⊥
not-inf x s h e = subst (λ (z : Float). T (finite z)) e h

fin-num : (s : Bool) (m : ℕ) (e : ℤ) → T (not (is_nan (fin s m e)))
unfolding is_nan
fin-num s m e = tt

pub own : (s : Bool) (m : ℕ) (e : ℤ) → T (fits binary64 (fin s m e)) → m * up e * ONE ≡ units (fin s m e) * down e
own s m e h =
    let v = view (fin s m e) h (fin-num s m e) in
    elim (eq-or-lt_of_le v.within) [
      | inl g ↦ absurd (not-inf (fin s m e) v.sign tt (v.is ∙ ap (F v.sign) g ∙ F-inf v.sign))
      | inr g ↦
          let k : HasValue (fin s m e) v.sign (val v.index) ONE = subst (λ (x : Float). HasValue x v.sign (val v.index) ONE) (sym v.is) (F-value v.sign v.index g) in
          k.1 ∙ ap (λ (z : ℕ). z * down e) (sym (units-is s m e (val v.index) k.1))
    ]

-- ---- the sum: r is p - n units, rounded
pub record Sum (r : Float) (p n : ℕ) : Type 0 where
  pub sign : Bool
  pub size : ℕ
  pub is : r ≡ round binary64 sign size ONE
  pub number : cond sign 0 size + n ≡ p + cond sign size 0

pub sum_near : (r : Float) (p n : ℕ) → Sum r p n → Near ONE r p n
sum_near r p n h =
    let q = cond h.sign 0 h.size in
    let m = cond h.sign h.size 0 in
    let e : q * ONE + n * ONE ≡ p * ONE + m * ONE = sym (add-mul q n ONE) ∙ ap (λ (z : ℕ). z * ONE) h.number ∙ add-mul p m ONE in
    near_same r ONE ONE q m p n one-pos e (subst (λ (x : Float). Near ONE x q m) (sym h.is) (near-round h.sign h.size ONE one-pos))

-- a / c and b / c are X and Y units, and so are their sum and their difference
module _ (a b c X Y : ℕ) (C : 0 < c) (ha : a * ONE ≡ X * c) (hb : b * ONE ≡ Y * c) where
  together : (s : Bool) → round binary64 s (a + b) c ≡ round binary64 s (X + Y) ONE
  together s = round_same binary64 s (a + b) c (X + Y) ONE C one-pos (simp add-mul (omega arith))

  least : b ≤ a → Y ≤ X
  least h = le_of_mul-le-mul_right {k = c} (let w = mul-le-mul_right ONE h in omega arith) C

  apart : b ≤ a → (s : Bool) → round binary64 s (a - b) c ≡ round binary64 s (X - Y) ONE
  apart h s =
      let d : (a - b) * ONE + b * ONE ≡ a * ONE = sym (add-mul (a - b) b ONE) ∙ ap (λ (z : ℕ). z * ONE) (sub-add_cancel h) in
      let e : (X - Y) * c + Y * c ≡ X * c = sym (add-mul (X - Y) Y c) ∙ ap (λ (z : ℕ). z * c) (sub-add_cancel (least h)) in
      round_same binary64 s (a - b) c (X - Y) ONE C one-pos (omega arith)

module _ (a b c X Y : ℕ) (C : 0 < c) (ha : a * ONE ≡ X * c) (hb : b * ONE ≡ Y * c) where
  sum_alike : (s : Bool) (p n : ℕ) → cond s 0 (X + Y) + n ≡ p + cond s (X + Y) 0 → Sum (sum binary64 s a s b c) p n
  unfolding sum
  sum_alike true p n e = record { sign = true; size = X + Y; is = together a b c X Y C ha hb true; number = e }
  sum_alike false p n e = record { sign = false; size = X + Y; is = together a b c X Y C ha hb false; number = e }

  sum-pn : Sum (sum binary64 false a true b c) (X + 0) (0 + Y)
  unfolding sum
  sum-pn = go (ltb a b) (ltb→lt a b) (nltb→le a b)
    where
      go : (t : Bool) → (T t → a < b) → (T (not t) → b ≤ a) → Sum (cond t (round binary64 true (b - a) c) (round binary64 false (a - b) c)) (X + 0) (0 + Y)
      go true f g =
          let l = le_of_lt (f tt) in
          let w = least b a c Y X C hb ha l in
          record { sign = true; size = Y - X; is = apart b a c Y X C hb ha l true; number = omega arith }
      go false f g =
          let w = least a b c X Y C ha hb (g tt) in
          record { sign = false; size = X - Y; is = apart a b c X Y C ha hb (g tt) false; number = omega arith }

  sum-np : Sum (sum binary64 true a false b c) (0 + Y) (X + 0)
  unfolding sum
  sum-np = go (ltb a b) (ltb b a) (ltb→lt a b) (nltb→le a b) (nltb→le b a)
    where
      go : (t u : Bool) → (T t → a < b) → (T (not t) → b ≤ a) → (T (not u) → a ≤ b) → Sum (cond t (round binary64 false (b - a) c) (round binary64 u (a - b) c)) (0 + Y) (X + 0)
      go true u f g h =
          let l = le_of_lt (f tt) in
          let w = least b a c Y X C hb ha l in
          record { sign = false; size = Y - X; is = apart b a c Y X C hb ha l false; number = omega arith }
      go false true f g h =
          let w = least a b c X Y C ha hb (g tt) in
          record { sign = true; size = X - Y; is = apart a b c X Y C ha hb (g tt) true; number = omega arith }
      -- an exact zero
      go false false f g h =
          let w = least a b c X Y C ha hb (g tt) in
          let v = least b a c Y X C hb ha (h tt) in
          record { sign = false; size = X - Y; is = apart a b c X Y C ha hb (g tt) false; number = omega arith }

-- a float's fraction over a common denominator
over : (M X de dd : ℕ) → M * ONE ≡ X * de → M * dd * ONE ≡ X * (de * dd)
over M X de dd h = mul_right_comm M dd ONE ∙ ap (λ (z : ℕ). z * dd) h ∙ mul_assoc X de dd

over' : (M X de dd : ℕ) → M * ONE ≡ X * dd → M * de * ONE ≡ X * (de * dd)
over' M X de dd h = over M X dd de h ∙ ap (λ (z : ℕ). X * z) (mul_comm dd de)

pub sum-add : (x y : Float) → T (fits binary64 x) → T (fits binary64 y) → T (finite x) → T (finite y) → Sum (add binary64 x y) (plus x + plus y) (minus x + minus y)
unfolding add
sum-add nan y f g h k = absurd h
sum-add (inf s) y f g h k = absurd h
sum-add (fin s m e) nan f g h k = absurd k
sum-add (fin s m e) (inf t) f g h k = absurd k
sum-add (fin s m e) (fin t n d) f g h k =
    go s t (over (m * up e) (units (fin s m e)) (down e) (down d) (own s m e f)) (over' (n * up d) (units (fin t n d)) (down e) (down d) (own t n d g))
  where
    a : ℕ
    a = m * up e * down d

    b : ℕ
    b = n * up d * down e

    c : ℕ
    c = down e * down d

    C : 0 < c
    C = mul-pos (down_pos e) (down_pos d)

    go : (s t : Bool) → a * ONE ≡ units (fin s m e) * c → b * ONE ≡ units (fin t n d) * c
        → Sum (sum binary64 s a t b c) (plus (fin s m e) + plus (fin t n d)) (minus (fin s m e) + minus (fin t n d))
    go false false i j = sum_alike a b c _ _ C i j false _ _ refl
    go false true i j = sum-pn a b c _ _ C i j
    go true false i j = sum-np a b c _ _ C i j
    go true true i j = sum_alike a b c _ _ C i j true _ _ refl

pub near_add : (x y : Float) → T (fits binary64 x) → T (fits binary64 y) → T (finite x) → T (finite y) → Near ONE (add binary64 x y) (plus x + plus y) (minus x + minus y)
near_add x y f g h k = sum_near (add binary64 x y) (plus x + plus y) (minus x + minus y) (sum-add x y f g h k)

-- ---- the difference
pub neg-finite : (x : Float) → T (finite x) → T (finite (neg x))
unfolding neg
neg-finite nan h = h
neg-finite (inf s) h = h
neg-finite (fin s m e) h = h

pub plus-neg : (x : Float) → plus (neg x) ≡ minus x
unfolding neg
plus-neg nan = refl
plus-neg (inf s) = refl
plus-neg (fin true m e) = refl
plus-neg (fin false m e) = refl

pub minus-neg : (x : Float) → minus (neg x) ≡ plus x
unfolding neg
minus-neg nan = refl
minus-neg (inf s) = refl
minus-neg (fin true m e) = refl
minus-neg (fin false m e) = refl

sub_is : (x y : Float) → sub binary64 x y ≡ add binary64 x (neg y)
unfolding sub
sub_is x y = refl

pub sum-sub : (x y : Float) → T (fits binary64 x) → T (fits binary64 y) → T (finite x) → T (finite y) → Sum (sub binary64 x y) (plus x + minus y) (minus x + plus y)
sum-sub x y f g h k = rw (sub_is x y, ← plus-neg y, ← minus-neg y) (sum-add x (neg y) f (neg-fits binary64 y g) h (neg-finite y k))

pub near_sub : (x y : Float) → T (fits binary64 x) → T (fits binary64 y) → T (finite x) → T (finite y) → Near ONE (sub binary64 x y) (plus x + minus y) (minus x + plus y)
near_sub x y f g h k = sum_near (sub binary64 x y) (plus x + minus y) (minus x + plus y) (sum-sub x y f g h k)

-- ---- the product, at the scale ONE * ONE
prod-eq : (M N X Y de dd : ℕ) → M * ONE ≡ X * de → N * ONE ≡ Y * dd → M * N * (ONE * ONE) ≡ X * Y * (de * dd)
prod-eq M N X Y de dd h k = mul-mul-mul_comm M N ONE ONE ∙ ap (λ (z : ℕ). z * (N * ONE)) h ∙ ap (λ (z : ℕ). X * de * z) k ∙ mul-mul-mul_comm X de Y dd

pub near_mul : (x y : Float) → T (fits binary64 x) → T (fits binary64 y) → T (finite x) → T (finite y)
    → Near (ONE * ONE) (mul binary64 x y) (plus x * plus y + minus x * minus y) (plus x * minus y + minus x * plus y)
unfolding mul
near_mul nan y f g h k = absurd h
near_mul (inf s) y f g h k = absurd h
near_mul (fin s m e) nan f g h k = absurd k
near_mul (fin s m e) (inf t) f g h k = absurd k
near_mul (fin s m e) (fin t n d) f g h k =
    go s t (prod-eq (m * up e) (n * up d) (units (fin s m e)) (units (fin t n d)) (down e) (down d) (own s m e f) (own t n d g))
  where
    N : ℕ
    N = m * up e * (n * up d)

    c : ℕ
    c = down e * down d

    C : 0 < c
    C = mul-pos (down_pos e) (down_pos d)

    go : (s t : Bool) → N * (ONE * ONE) ≡ units (fin s m e) * units (fin t n d) * c
        → Near (ONE * ONE) (round binary64 (unlike s t) N c)
        (plus (fin s m e) * plus (fin t n d) + minus (fin s m e) * minus (fin t n d))
        (plus (fin s m e) * minus (fin t n d) + minus (fin s m e) * plus (fin t n d))
    go false false q = near_same (round binary64 false N c) c (ONE * ONE) N 0 _ _ C (simp (add-mul, zero-mul, mul-zero) (omega arith)) (near-round false N c C)
    go false true q = near_same (round binary64 true N c) c (ONE * ONE) 0 N _ _ C (simp (add-mul, zero-mul, mul-zero) (omega arith)) (near-round true N c C)
    go true false q = near_same (round binary64 true N c) c (ONE * ONE) 0 N _ _ C (simp (add-mul, zero-mul, mul-zero) (omega arith)) (near-round true N c C)
    go true true q = near_same (round binary64 false N c) c (ONE * ONE) N 0 _ _ C (simp (add-mul, zero-mul, mul-zero) (omega arith)) (near-round false N c C)
