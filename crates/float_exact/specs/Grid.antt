-- The last place of a float, and what it says of a sum: the floats from an index on are multiples of 2 ^ j units, j the last place there, and below 2 ^ 53 of them every multiple is a float.
-- So a sum of two such multiples is exact, or it is 2 ^ 53 of them at least. Assumes nothing.
use Rattle.std.specs.Prelude.{◌≡◌, refl, ◌⊎◌, ℕ, zero, suc, ◌+◌, ◌-◌, ◌*◌, ◌/◌, ◌%◌, ◌^◌, ◌≤◌, ◌<◌, Bool, true, false, not, cond, T, Float}
use Rattle.std.proofs.Common.{sym, ap, ◌∙◌, subst, inl, inr, zero-le, not-le_of_lt, lt_of_lt_of_le, eq-or-lt_of_le, mul-one, mul_comm, mul_assoc, zero-mul, mul-le-mul_right, mul-lt-mul_of_pos_right, arith, true≢false, pow-add, pow_pos, pow_mono, shl_lt}
use Rattle.std.proofs.Math.Nat.{mul-sub, pow-succ'}
use Rattle.std.specs.Float.{nan, inf, fin, binary64}
use Rattle.std.specs.Float.Ieee.{fits, is_nan, round, le}
use Rattle.std.specs.Float.Ieee.Exact.{HasValue, round_exact}
use Rattle.std.specs.Float.Ieee.Order.{round_mono}
use Rattle.std.specs.Float.Ieee.Scale.{finite}
use Rattle.float_order.specs.Next.{INF}
use Rattle.float_values.specs.Value.{ONE, units}
use Rattle.float_values.specs.Laws.Small.{le-or-lt}
use Rattle.float_values.specs.Laws.Pairs.{plus, minus}
use Rattle.float_values.specs.Laws.Patterns.{F, HID, val_f, val, F-value, F-inf, val-exact, view}
use Rattle.float_values.specs.Laws.Central.{one-pos, le-values, inf-not-le, rounded}
use Rattle.float_values.specs.Laws.Near.{units-is, Sum}
use Rattle.float_values.specs.Laws.Order.{val-strict}

-- ---- the number of a float that has a known value
parts-of : (r : Float) (s : Bool) (v : ℕ) → HasValue r s v ONE → T (finite r) × (plus r ≡ cond s 0 v) × (minus r ≡ cond s v 0)
parts-of nan s v h = absurd h
parts-of (inf t) s v h = absurd h
parts-of (fin true m e) true v h = (tt, refl, units-is true m e v h.1)
parts-of (fin true m e) false v h = absurd (true≢false h.0)
parts-of (fin false m e) true v h = absurd (true≢false (sym h.0))
parts-of (fin false m e) false v h = (tt, units-is false m e v h.1, refl)

units_of : (r : Float) (s : Bool) (v : ℕ) → HasValue r s v ONE → units r ≡ v
units_of nan s v h = absurd h
units_of (inf t) s v h = absurd h
units_of (fin t m e) s v h = units-is t m e v h.1

-- ---- the index of a finite float
pub record Index (x : Float) : Type 0 where
  pub index : ℕ
  pub within : index < INF
  pub number : units x ≡ val index

-- a finite value has the number of its index
number_at : (x : Float) (s : Bool) (i : ℕ) → i ≤ INF → x ≡ F s i → T (finite x) → (i < INF) × (units x ≡ val i)
number_at x s i I e f = elim (eq-or-lt_of_le I) [
  | inl g ↦ absurd (subst (λ (z : Float). T (finite z)) (e ∙ ap (F s) g ∙ F-inf s) f)
  | inr l ↦ (l, units_of x s (val i) (subst (λ (z : Float). HasValue z s (val i) ONE) (sym e) (F-value s i l)))
]

finite-num : (x : Float) → T (finite x) → T (not (is_nan x))
unfolding is_nan
finite-num nan h = h
finite-num (inf s) h = absurd h
finite-num (fin s m e) h = tt

pub index_of : (x : Float) → T (fits binary64 x) → T (finite x) → Index x
index_of x f g =
    let v = view x f (finite-num x g) in
    let w = number_at x v.sign v.index v.within v.is g in
    record { index = v.index; within = w.0; number = w.1 }

-- ---- the last place
abbrev place : ℕ → ℕ
place zero = 0
place (suc x) = x

abbrev digits : ℕ → ℕ → ℕ
digits zero t = t
digits (suc x) t = HID + t

-- the value with the index b is a multiple of 2 ^ last b units
abbrev pub last : ℕ → ℕ
last b = place (b / HID)

abbrev pub TWO53 : ℕ
TWO53 = 9007199254740992

val-digits : (b : ℕ) → val b ≡ digits (b / HID) (b % HID) * 2 ^ last b
unfolding val
val-digits b = go (b / HID) (b % HID)
  where
    go : (x t : ℕ) → val_f x t ≡ digits x t * 2 ^ place x
    go zero t = sym (mul-one t)
    go (suc x) t = refl

pub val-under : (b : ℕ) → val b < TWO53 * 2 ^ last b
val-under b = subst (λ (v : ℕ). v < TWO53 * 2 ^ last b) (sym (val-digits b)) (mul-lt-mul_of_pos_right (go (b / HID) (b % HID) (few b)) (pow_pos (last b)))
  where
    few : (b : ℕ) → b % HID < HID
    few b = omega arith

    go : (x t : ℕ) → t < HID → digits x t < TWO53
    go zero t h = omega arith
    go (suc x) t h = omega arith

pub last-in : (b : ℕ) → b < INF → last b ≤ 2045
last-in b h = go (b / HID) (few b h)
  where
    few : (b : ℕ) → b < INF → b / HID ≤ 2046
    few b h = omega arith

    go : (x : ℕ) → x ≤ 2046 → place x ≤ 2045
    go zero h = omega arith
    go (suc x) h = omega arith

multiple : (b c : ℕ) → b ≤ c → (q : ℕ) × (val c ≡ q * 2 ^ last b)
multiple b c h =
    let q = digits (c / HID) (c % HID) in
    let k = last c - last b in
    let e : 2 ^ last c ≡ 2 ^ k * 2 ^ last b = ap (λ (z : ℕ). 2 ^ z) (back (last c) (last b) (go (b / HID) (c / HID) (fields b c h))) ∙ pow-add 2 k (last b) in
    (q * 2 ^ k, val-digits c ∙ ap (λ (z : ℕ). q * z) e ∙ sym (mul_assoc q (2 ^ k) (2 ^ last b)))
  where
    fields : (b c : ℕ) → b ≤ c → b / HID ≤ c / HID
    fields b c h = omega arith

    go : (x y : ℕ) → x ≤ y → place x ≤ place y
    go zero y h = zero-le
    go (suc x) zero h = omega arith
    go (suc x) (suc y) h = omega arith

    back : (c b : ℕ) → b ≤ c → c ≡ c - b + b
    back c b h = omega arith

-- a float that is no smaller than another is a multiple of the other's last place
pub on-grid : (x : Float) → T (fits binary64 x) → T (finite x) → (b : ℕ) → val b ≤ units x → (q : ℕ) × (units x ≡ q * 2 ^ last b)
on-grid x f g b h =
    let i = index_of x f g in
    let m = multiple b i.index (go i.index (subst (λ (v : ℕ). val b ≤ v) i.number h)) in
    (m.0, i.number ∙ m.1)
  where
    go : (i : ℕ) → val b ≤ val i → b ≤ i
    go i h = elim (le-or-lt b i) [ inl k ↦ k | inr k ↦ absurd (not-le_of_lt (val-strict i b k) h) ]

pub record Parts (x : Float) (u : ℕ) : Type 0 where
  pub above : ℕ
  pub under : ℕ
  pub plus-is : plus x ≡ above * u
  pub minus_is : minus x ≡ under * u

pub parts-on : (x : Float) (q u : ℕ) → units x ≡ q * u → Parts x u
parts-on nan q u h = record { above = 0; under = 0; plus-is = sym (zero-mul u); minus_is = sym (zero-mul u) }
parts-on (inf s) q u h = record { above = 0; under = 0; plus-is = sym (zero-mul u); minus_is = sym (zero-mul u) }
parts-on (fin true m e) q u h = record { above = 0; under = q; plus-is = sym (zero-mul u); minus_is = h }
parts-on (fin false m e) q u h = record { above = q; under = 0; plus-is = h; minus_is = sym (zero-mul u) }

-- ---- a number that is a float is rounded to itself
pub record Equals (r : Float) (p n : ℕ) : Type 0 where
  pub is_finite : T (finite r)
  pub number : plus r + n ≡ p + minus r

pub exactly : (r : Float) (p n : ℕ) (h : Sum r p n) → HasValue (round binary64 h.sign h.size ONE) h.sign h.size ONE → Equals r p n
exactly r p n h v =
    let w = parts-of r h.sign h.size (subst (λ (x : Float). HasValue x h.sign h.size ONE) (sym h.is) v) in
    record { is_finite = w.0; number = rw (w.1, w.2) h.number }

round-small : (s : Bool) (q j : ℕ) → q < TWO53 → j ≤ 2045 → HasValue (round binary64 s (q * 2 ^ j) ONE) s (q * 2 ^ j) ONE
unfolding ONE
round-small s q j h k = round_exact binary64 s (q * 2 ^ j) (2 ^ 1074) q j (pow_pos 1074) h (lt_of_lt_of_le (shl_lt 53 j h) (pow_mono (room j k))) refl
  where
    room : (j : ℕ) → j ≤ 2045 → 53 + j ≤ 2098
    room j h = omega arith

-- ---- a large number is rounded to a large float, the infinity's index included
over-all : round binary64 false (val INF) ONE ≡ inf false
unfolding round val ONE
over-all = refl

reaches : (N i c : ℕ) → i < INF → c ≤ INF → val c ≤ N → round binary64 false N ONE ≡ F false i → val c ≤ val i
reaches N i c I C h is = elim (eq-or-lt_of_le C) [
  | inl e ↦ absurd (inf-not-le (F false i) (val i) (F-value false i I) (subst (λ (x : Float). T (le x (F false i))) (ap (λ (z : ℕ). round binary64 false (val z) ONE) e ∙ over-all) below))
  | inr l ↦ le-values (round binary64 false (val c) ONE) (F false i) (val c) (val i) (val-exact false c l) (F-value false i I) below
]
  where
    below : T (le (round binary64 false (val c) ONE) (F false i))
    below = subst (λ (r : Float). T (le (round binary64 false (val c) ONE) r)) is (round_mono binary64 (val c) ONE N ONE one-pos one-pos (mul-le-mul_right ONE h))

-- 2 ^ 53 times 2 ^ j units are the number of an index
edge : (j : ℕ) → val (HID * (j + 2)) ≡ TWO53 * 2 ^ j
unfolding val
edge j = rw (field j, no_digit j) (twice (2 ^ j) (2 ^ suc j) (pow-succ' 2 j))
  where
    field : (j : ℕ) → HID * (j + 2) / HID ≡ suc (suc j)
    field j = omega arith

    no_digit : (j : ℕ) → HID * (j + 2) % HID ≡ 0
    no_digit j = omega arith

    twice : (p q : ℕ) → q ≡ 2 * p → (HID + 0) * q ≡ TWO53 * p
    twice p q e = omega arith

large : (r : Float) (p n : ℕ) (h : Sum r p n) (j : ℕ) → j ≤ 2045 → TWO53 * 2 ^ j ≤ h.size → T (finite r) → TWO53 * 2 ^ j ≤ units r
large r p n h j J l f =
    let k = rounded h.size ONE in
    let w = number_at r h.sign k.index k.within (h.is ∙ k.is h.sign) f in
    rw (w.1, ← edge j) (reaches h.size k.index (HID * (j + 2)) w.0 (edge_in j J) (rw (edge j) l) k.size_is)
  where
    edge_in : (j : ℕ) → j ≤ 2045 → HID * (j + 2) ≤ INF
    edge_in j h = omega arith

-- ---- so a sum of multiples of 2 ^ j units is exact, or 2 ^ 53 of them at least
difference : (z P M u : ℕ) → z + M * u ≡ P * u → z ≡ (P - M) * u
difference z P M u h =
    let e : (P - M) * u ≡ P * u - M * u = mul_comm (P - M) u ∙ mul-sub u P M ∙ ap (λ (w : ℕ). w - u * M) (mul_comm u P) ∙ ap (λ (w : ℕ). P * u - w) (mul_comm u M) in
    omega arith

pub exact-or-large : (r : Float) (p n : ℕ) (h : Sum r p n) (P M j : ℕ) → j ≤ 2045 → p ≡ P * 2 ^ j → n ≡ M * 2 ^ j → Equals r p n ⊎ (T (finite r) → TWO53 * 2 ^ j ≤ units r)
exact-or-large r p n h P M j J a b = elim (le-or-lt TWO53 q) [
  | inl k ↦ inr (large r p n h j J (subst (λ (z : ℕ). TWO53 * 2 ^ j ≤ z) (sym size_is) (mul-le-mul_right (2 ^ j) k)))
  | inr k ↦ inl (exactly r p n h (subst (λ (z : ℕ). HasValue (round binary64 h.sign z ONE) h.sign z ONE) (sym size_is) (round-small h.sign q j k J)))
]
  where
    q : ℕ
    q = cond h.sign (M - P) (P - M)

    go : (s : Bool) (z : ℕ) → cond s 0 z + n ≡ p + cond s z 0 → z ≡ cond s (M - P) (P - M) * 2 ^ j
    go true z e = difference z M P (2 ^ j) (omega arith)
    go false z e = difference z P M (2 ^ j) (omega arith)

    size_is : h.size ≡ q * 2 ^ j
    size_is = go h.sign h.size h.number
