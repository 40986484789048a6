-- A float is a fraction, (right - left) / den, an infinity a number H beyond those it is compared with. The order of the fractions is that of the floats,
-- whether `f64` holds them or not. Assumes nothing.
use Rattle.std.specs.Prelude.{◌≡◌, ℕ, suc, ◌+◌, ◌*◌, ◌^◌, ◌≤◌, ◌<◌, Bool, not, cond, ◌||◌, ◌&&◌, T, ltb, eqb, Float}
use Rattle.std.proofs.Common.{subst, inl, inr, lt_of_lt_of_le, lt_of_le_of_lt, mul-one, mul-le-mul_left, ltb→lt, lt→ltb, eqb→eq}
use native.Mathlib.Omega.{arith}
use Rattle.std.proofs.Math.Bool.{true, false}
use Rattle.std.specs.Float.Ieee.{nan, up, down, below, level, is_nan, le}
use Rattle.std.specs.Float.{inf, fin}
use Rattle.std.specs.Float.Ieee.Fits.{and_l, and_r, and_i, eq→eqb, down_pos}
use Rattle.std.specs.Float.Ieee.Positive.{num, den}
use Rattle.float_values.specs.Laws.Small.{le-or-lt, or_split, or_left, or_right}

-- from this number on a fraction rounds to an infinity. It is shut, so that no check computes with it
unfoldable pub BIG : ℕ
BIG = 2 ^ 1024

abbrev pub sign : Float → Bool
sign nan = false
sign (inf s) = s
sign (fin s m e) = s

abbrev pub size : ℕ → Float → ℕ
size H nan = 0
size H (inf s) = H
size H (fin s m e) = m * up e

abbrev pub right : ℕ → Float → ℕ
right H x = cond (sign x) 0 (size H x)

abbrev pub left : ℕ → Float → ℕ
left H x = cond (sign x) (size H x) 0

-- what H is beyond: the size, and where a fraction with this denominator rounds to an infinity
abbrev pub reach : Float → ℕ
reach x = num x + BIG * den x

-- the fractions' order
abbrev pub Cross : ℕ → Float → Float → Type 0
Cross H x y = right H x * den y + left H y * den x ≤ right H y * den x + left H x * den y

-- ---- ±a and ±b over one denominator, as `le` compares them
pub sides-to : (s : Bool) (a : ℕ) (t : Bool) (b : ℕ) → T (below s a t b || level s a t b) → cond s 0 a + cond t b 0 ≤ cond t 0 b + cond s a 0
sides-to false a false b h = elim (or_split (ltb a b) (eqb a b && true) h) [
  | inl k ↦ let w = ltb→lt a b k in omega arith
  | inr k ↦ let w = eqb→eq a b (and_l (eqb a b) true k) in omega arith
]
sides-to false a true b h =
    let w = eqb→eq a b (and_l (eqb a b) (eqb a 0) h) in
    let z = eqb→eq a 0 (and_r (eqb a b) (eqb a 0) h) in
    omega arith
sides-to true a false b h = omega arith
sides-to true a true b h = elim (or_split (ltb b a) (eqb a b && true) h) [
  | inl k ↦ let w = ltb→lt b a k in omega arith
  | inr k ↦ let w = eqb→eq a b (and_l (eqb a b) true k) in omega arith
]

same : (a b : ℕ) (t : Bool) → a ≡ b → T t → T (eqb a b && t)
same a b t e h = and_i (eqb a b) t (eq→eqb e) h

pub sides-of : (s : Bool) (a : ℕ) (t : Bool) (b : ℕ) → cond s 0 a + cond t b 0 ≤ cond t 0 b + cond s a 0 → T (below s a t b || level s a t b)
sides-of false a false b h = elim (le-or-lt b a) [
  | inl k ↦ or_right (ltb a b) (eqb a b && true) (same a b true (omega arith) tt)
  | inr k ↦ or_left (ltb a b) (eqb a b && true) (lt→ltb a b k)
]
sides-of false a true b h = same a b (eqb a 0) (omega arith) (eq→eqb {a = a} {b = 0} (omega arith))
sides-of true a false b h = elim (le-or-lt (a + b) 0) [
  | inl k ↦ or_right (ltb 0 (a + b)) (eqb a b && eqb a 0) (same a b (eqb a 0) (omega arith) (eq→eqb {a = a} {b = 0} (omega arith)))
  | inr k ↦ or_left (ltb 0 (a + b)) (eqb a b && eqb a 0) (lt→ltb 0 (a + b) k)
]
sides-of true a true b h = elim (le-or-lt a b) [
  | inl k ↦ or_right (ltb b a) (eqb a b && true) (same a b true (omega arith) tt)
  | inr k ↦ or_left (ltb b a) (eqb a b && true) (lt→ltb b a k)
]

-- ---- what is finite lies between the infinities
beyond : (H n b d : ℕ) → 0 < d → n + b < H → n < H * d
beyond H n b d D h = lt_of_lt_of_le (lt_of_le_of_lt (omega arith) h) (subst (λ (z : ℕ). z ≤ H * d) (mul-one H) (mul-le-mul_left H D))

-- such an H
pub beyond-both : (a b : ℕ) → (a < suc (a + b)) × (b < suc (a + b))
beyond-both a b = (omega arith, omega arith)

module _ (H : ℕ) where
  pub order-to : (x y : Float) → reach x < H → reach y < H → T (le x y) → Cross H x y
  unfolding le
  order-to nan y i j h = absurd h
  order-to (inf s) nan i j h = absurd h
  order-to (inf true) (inf true) i j h = omega arith
  order-to (inf true) (inf false) i j h = omega arith
  order-to (inf false) (inf true) i j h = absurd h
  order-to (inf false) (inf false) i j h = omega arith
  order-to (inf true) (fin true n d) i j h = let w = beyond H (n * up d) (BIG * down d) (down d) (down_pos d) j in omega arith
  order-to (inf true) (fin false n d) i j h = omega arith
  order-to (inf false) (fin t n d) i j h = absurd h
  order-to (fin s m e) nan i j h = absurd h
  order-to (fin s m e) (inf true) i j h = absurd h
  order-to (fin false m e) (inf false) i j h = let w = beyond H (m * up e) (BIG * down e) (down e) (down_pos e) i in omega arith
  order-to (fin true m e) (inf false) i j h = omega arith
  order-to (fin true m e) (fin true n d) i j h = let w = sides-to true (m * up e * down d) true (n * up d * down e) h in omega arith
  order-to (fin true m e) (fin false n d) i j h = omega arith
  order-to (fin false m e) (fin true n d) i j h = let w = sides-to false (m * up e * down d) true (n * up d * down e) h in omega arith
  order-to (fin false m e) (fin false n d) i j h = let w = sides-to false (m * up e * down d) false (n * up d * down e) h in omega arith

  pub order-of : (x y : Float) → reach x < H → reach y < H → T (not (is_nan x)) → T (not (is_nan y)) → Cross H x y → T (le x y)
  unfolding le is_nan
  order-of nan y i j f g h = absurd f
  order-of (inf s) nan i j f g h = absurd g
  order-of (inf true) (inf true) i j f g h = tt
  order-of (inf true) (inf false) i j f g h = tt
  order-of (inf false) (inf true) i j f g h = absurd (no H (reach (inf true)) i h)
    where
      no : (H r : ℕ) → r < H → H * 1 + H * 1 ≤ 0 * 1 + 0 * 1 → ⊥
      no H r i h = omega arith
  order-of (inf false) (inf false) i j f g h = tt
  order-of (inf true) (fin t n d) i j f g h = tt
  order-of (inf false) (fin true n d) i j f g h = let w = beyond H (n * up d) (BIG * down d) (down d) (down_pos d) j in absurd (omega arith)
  order-of (inf false) (fin false n d) i j f g h = let w = beyond H (n * up d) (BIG * down d) (down d) (down_pos d) j in absurd (omega arith)
  order-of (fin s m e) nan i j f g h = absurd g
  order-of (fin s m e) (inf false) i j f g h = tt
  order-of (fin true m e) (inf true) i j f g h = let w = beyond H (m * up e) (BIG * down e) (down e) (down_pos e) i in absurd (omega arith)
  order-of (fin false m e) (inf true) i j f g h = let w = beyond H (m * up e) (BIG * down e) (down e) (down_pos e) i in absurd (omega arith)
  order-of (fin true m e) (fin true n d) i j f g h = sides-of true (m * up e * down d) true (n * up d * down e) (omega arith)
  order-of (fin true m e) (fin false n d) i j f g h = sides-of true (m * up e * down d) false (n * up d * down e) (omega arith)
  order-of (fin false m e) (fin true n d) i j f g h = sides-of false (m * up e * down d) true (n * up d * down e) (omega arith)
  order-of (fin false m e) (fin false n d) i j f g h = sides-of false (m * up e * down d) false (n * up d * down e) (omega arith)
