-- The bit patterns of binary64 as an index into its values: what number each stands for, in units of 2 ^ -1074, and that the next pattern stands for a larger number. Assumes nothing.
use Rattle.std.specs.Prelude.{◌≡◌, refl, ℕ, zero, suc, ◌+◌, ◌-◌, ◌*◌, ◌/◌, ◌%◌, ◌^◌, ◌≤◌, ◌<◌, Bool, true, false, not, cond, T, leb, eqb, Float}
use Rattle.std.proofs.Common.{sym, ap, ◌∙◌, subst, inl, inr, le_refl, mul-one, mul-lt-mul_of_pos_right, lt_of_lt_of_le, arith, leb→le, nltb→le, eqb→eq, lit≤, pow_pos, pow_mono, shl_lt, le-leb}
use Rattle.std.proofs.Math.Nat.{pow-succ'}
use Rattle.std.proofs.Math.Dec.{nleb→lt, not_T}
use Rattle.std.proofs.lemmas.Bool.{lt-leb}
use Rattle.std.specs.Float.{nan, inf, binary64}
use Rattle.std.specs.Float.Ieee.{odd, round, of_fields, of_bits, to_bits, fits, is_nan, nan_bits, neg}
use Rattle.std.specs.Float.Ieee.Bits.{cond_no, of_bits-to_bits, to_bits-lt, to_bits-of_bits, nan_bits_is, nan_bits_above}
use Rattle.std.specs.Float.Ieee.Exact.{HasValue, odd_sign, round_exact}
use Rattle.float_order.specs.Next.{INF, TOP}
use Rattle.float_order.proofs.Bits.{pattern-no-nan}
use Rattle.float_values.specs.Value.{ONE}
use Rattle.float_values.specs.Laws.Small.{le-or-lt}

-- ---- small things
pub odd-neg : (d q k l : ℕ) → odd d true q k l ≡ neg (odd d false q k l)
unfolding odd neg
odd-neg d zero k l = refl
odd-neg d (suc q) k l = refl

-- 2 ^ 52, the weight of the exponent's field
abbrev pub HID : ℕ
HID = 4503599627370496

abbrev pub sg : Bool → ℕ
sg true = TOP
sg false = 0

-- the value with the sign s and the index b, for a b up to INF, which is that of an infinity
unfoldable pub F : Bool → ℕ → Float
F s b = of_bits binary64 (sg s + b)

-- ---- the number of a pattern, by its two fields
abbrev pub val_f : ℕ → ℕ → ℕ
val_f zero t = t
val_f (suc x) t = (HID + t) * 2 ^ x

unfoldable pub val : ℕ → ℕ
val b = val_f (b / HID) (b % HID)

high-mod : (b : ℕ) → b < TOP → (TOP + b) % TOP ≡ b
high-mod b h = omega arith

high-hid : (b : ℕ) → (TOP + b) % HID ≡ b % HID
high-hid b = omega arith

low-mod : (b : ℕ) → b < TOP → (0 + b) % TOP ≡ b
low-mod b h = omega arith

low-hid : (b : ℕ) → (0 + b) % HID ≡ b % HID
low-hid b = omega arith

high_le : (b : ℕ) → TOP ≤ TOP + b
high_le b = omega arith

low-lt : (b : ℕ) → b < TOP → 0 + b < TOP
low-lt b h = omega arith

of_bits_is : (b : ℕ) → of_bits binary64 b ≡ of_fields binary64 (leb TOP b) (b % TOP / HID) (b % HID)
unfolding of_bits
of_bits_is b = refl

pub F-fields : (s : Bool) (b : ℕ) → b < TOP → F s b ≡ of_fields binary64 s (b / HID) (b % HID)
unfolding F
F-fields true b h = of_bits_is (TOP + b) ∙ rw (le-leb TOP (TOP + b) (high_le b), high-mod b h, high-hid b)
F-fields false b h = of_bits_is (0 + b) ∙ rw (lt-leb TOP (0 + b) (low-lt b h), low-mod b h, low-hid b)

-- ---- below the infinity's index a pattern is finite, and its number is `val b` units
differ : (x : ℕ) → suc x < 2047 → suc x ≡ 2047 → ⊥
differ x h e = omega arith

fields-odd : (s : Bool) (x t : ℕ) → suc x < 2047 → of_fields binary64 s (suc x) t ≡ odd 53 s (HID + t) x 1074
unfolding of_fields
fields-odd s x t h = cond_no (eqb (suc x) 2047) (cond (eqb t 0) (inf s) nan) (odd 53 s (HID + t) x 1074) (not_T (eqb (suc x) 2047) (λ (u : T (eqb (suc x) 2047)). differ x h (eqb→eq (suc x) 2047 u)))

fields_value : (s : Bool) (x t : ℕ) → x < 2047 → HasValue (of_fields binary64 s x t) s (val_f x t) ONE
unfolding of_fields ONE
fields_value s zero t h = subst (λ (z : ℕ). HasValue (odd 53 s t 0 1074) s z (2 ^ 1074)) (mul-one t) (odd_sign 53 s t 0 1074)
fields_value s (suc x) t h = subst (λ (v : Float). HasValue v s ((HID + t) * 2 ^ x) (2 ^ 1074)) (sym (fields-odd s x t h)) (odd_sign 53 s (HID + t) x 1074)

inf-top : (b : ℕ) → b < INF → b < TOP
inf-top b h = omega arith

inf-field : (b : ℕ) → b < INF → b / HID < 2047
inf-field b h = omega arith

pub F-value : (s : Bool) (b : ℕ) → b < INF → HasValue (F s b) s (val b) ONE
unfolding val
F-value s b h = subst (λ (v : Float). HasValue v s (val b) ONE) (sym (F-fields s b (inf-top b h))) (fields_value s (b / HID) (b % HID) (inf-field b h))

pub F-inf : (s : Bool) → F s INF ≡ inf s
unfolding F of_bits
F-inf true = refl
F-inf false = refl

-- ---- the next index has a larger number
same-field : (b : ℕ) → b % HID + 1 < HID → suc b / HID ≡ b / HID
same-field b h = omega arith

next-digit : (b : ℕ) → b % HID + 1 < HID → suc b % HID ≡ suc (b % HID)
next-digit b h = omega arith

next_field : (b : ℕ) → HID ≤ b % HID + 1 → suc b / HID ≡ suc (b / HID)
next_field b h = omega arith

no_digit : (b : ℕ) → HID ≤ b % HID + 1 → suc b % HID ≡ 0
no_digit b h = omega arith

digits_in : (b : ℕ) → b % HID < HID
digits_in b = omega arith

one_more : (t : ℕ) → HID + t < HID + suc t
one_more t = omega arith

step-digit : (x t : ℕ) → val_f x t < val_f x (suc t)
step-digit zero t = le_refl (suc t)
step-digit (suc x) t = mul-lt-mul_of_pos_right (one_more t) (pow_pos x)

step_field : (x t : ℕ) → t < HID → val_f x t < val_f (suc x) 0
step_field zero t h = small t h
  where
    small : (u : ℕ) → u < HID → u < (HID + 0) * 1
    small u k = omega arith
step_field (suc x) t h = twice (2 ^ x) (2 ^ suc x) (pow-succ' 2 x) (mul-lt-mul_of_pos_right (under t h) (pow_pos x))
  where
    under : (u : ℕ) → u < HID → HID + u < HID + HID
    under u k = omega arith

    twice : (p q : ℕ) → q ≡ 2 * p → (HID + t) * p < (HID + HID) * p → (HID + t) * p < (HID + 0) * q
    twice p q e l = omega arith

pub val-step : (b : ℕ) → val b < val (suc b)
unfolding val
val-step b = elim (le-or-lt HID (b % HID + 1)) [
  | inl h ↦ rw (next_field b h, no_digit b h) (step_field (b / HID) (b % HID) (digits_in b))
  | inr h ↦ rw (same-field b h, next-digit b h) (step-digit (b / HID) (b % HID))
]

-- ---- `round` leaves the number of a pattern as it is
few-digits : (t : ℕ) → t < HID → t < 9007199254740992
few-digits t h = omega arith

more-digits : (t : ℕ) → t < HID → HID + t < 9007199254740992
more-digits t h = omega arith

exponent-in : (x : ℕ) → suc x < 2047 → 53 + x ≤ 2098
exponent-in x h = omega arith

fields-exact : (s : Bool) (x t : ℕ) → x < 2047 → t < HID → HasValue (round binary64 s (val_f x t) ONE) s (val_f x t) ONE
unfolding ONE
fields-exact s zero t h k =
    round_exact binary64 s t (2 ^ 1074) t 0 (pow_pos 1074) (few-digits t k)
    (lt_of_lt_of_le (subst (λ (z : ℕ). z < 9007199254740992) (sym (mul-one t)) (few-digits t k)) (lit≤ tt))
    (ap (λ (z : ℕ). z * 2 ^ 1074) (sym (mul-one t)))
fields-exact s (suc x) t h k =
    round_exact binary64 s ((HID + t) * 2 ^ x) (2 ^ 1074) (HID + t) x (pow_pos 1074) (more-digits t k)
    (lt_of_lt_of_le (shl_lt 53 x (more-digits t k)) (pow_mono (exponent-in x h)))
    refl

pub val-exact : (s : Bool) (b : ℕ) → b < INF → HasValue (round binary64 s (val b) ONE) s (val b) ONE
unfolding val
val-exact s b h = fields-exact s (b / HID) (b % HID) (inf-field b h) (digits_in b)

-- ---- every value that is no NaN has a sign and an index
index_in : (n : ℕ) → T (not (nan_bits binary64 n)) → n % TOP ≤ INF
index_in n h = nltb→le INF (n % TOP) (subst (λ (t : Bool). T (not t)) (nan_bits_above binary64 n) h)

pub record View (x : Float) : Type 0 where
  pub sign : Bool
  pub index : ℕ
  pub within : index ≤ INF
  pub is : x ≡ F sign index

pub view : (x : Float) → T (fits binary64 x) → T (not (is_nan x)) → View x
unfolding F
view x h k = go (leb TOP n) (leb→le TOP n) (nleb→lt TOP n)
  where
    n : ℕ
    n = to_bits binary64 x

    back : of_bits binary64 n ≡ x
    back = of_bits-to_bits binary64 x h

    good : n % TOP ≤ INF
    good = index_in n (subst (λ (t : Bool). T (not t)) (sym (nan_bits_is binary64 n ∙ ap is_nan back)) k)

    upper : (a : ℕ) → TOP ≤ a → a < 18446744073709551616 → a ≡ TOP + a % TOP
    upper a p q = omega arith

    lower : (a : ℕ) → a < TOP → a ≡ 0 + a % TOP
    lower a p = omega arith

    go : (t : Bool) → (T t → TOP ≤ n) → (T (not t) → n < TOP) → View x
    go true a b = record { sign = true; index = n % TOP; within = good; is = sym back ∙ ap (of_bits binary64) (upper n (a tt) (to_bits-lt binary64 x h)) }
    go false a b = record { sign = false; index = n % TOP; within = good; is = sym back ∙ ap (of_bits binary64) (lower n (b tt)) }

-- ---- and back: the pattern of the value with a sign and an index
sg-mod : (s : Bool) (b : ℕ) → b ≤ INF → (sg s + b) % TOP ≤ INF
sg-mod true b h = omega arith
sg-mod false b h = omega arith

sg-lt : (s : Bool) (b : ℕ) → b ≤ INF → sg s + b < 18446744073709551616
sg-lt true b h = omega arith
sg-lt false b h = omega arith

pub F-no-nan : (s : Bool) (b : ℕ) → b ≤ INF → T (not (is_nan (F s b)))
unfolding F
F-no-nan s b h = subst (λ (t : Bool). T (not t)) (nan_bits_is binary64 (sg s + b)) (pattern-no-nan (sg s + b) (sg-mod s b h))

pub F-bits : (s : Bool) (b : ℕ) → b ≤ INF → to_bits binary64 (F s b) ≡ sg s + b
unfolding F
F-bits s b h = to_bits-of_bits binary64 (sg s + b) (sg-lt s b h) (F-no-nan s b h)

-- ---- the sign
fields_neg : (x t : ℕ) → of_fields binary64 true x t ≡ neg (of_fields binary64 false x t)
unfolding of_fields neg
fields_neg zero t = odd-neg 53 t 0 1074
fields_neg (suc x) t = go (eqb (suc x) 2047) (eqb t 0)
  where
    go : (a b : Bool) → cond a (cond b (inf true) nan) (odd 53 true (HID + t) x 1074) ≡ neg (cond a (cond b (inf false) nan) (odd 53 false (HID + t) x 1074))
    go true true = refl
    go true false = refl
    go false b = odd-neg 53 (HID + t) x 1074

pub F-neg : (b : ℕ) → b < TOP → F true b ≡ neg (F false b)
F-neg b h = F-fields true b h ∙ fields_neg (b / HID) (b % HID) ∙ ap neg (sym (F-fields false b h))
