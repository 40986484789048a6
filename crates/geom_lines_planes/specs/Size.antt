-- `size_f` by the tests that the code makes: below zero, zero, and the rest. Assumes nothing.
use Rattle.std.specs.Prelude.{ℕ, zero, suc, ◌*◌, ◌^◌, ◌<◌, ◌≡◌, refl, true, false, ◌||◌, T, eqb, ℤ, pos, negsuc, Float}
use Rattle.std.proofs.Common.{sym, subst, zero-mul, mul-one, mul-pos, zero-lt-suc, arith, ltb-true, eqb→eq, pow_pos}
use Rattle.std.specs.Bool.{beq}
use Rattle.std.specs.Float.{nan, inf, fin, binary64}
use Rattle.std.specs.Float.Ieee.{fits, up, down, neg, lt, le, eq}
use Rattle.std.specs.Float.Ieee.Fits.{and_l}
use Rattle.interval_arithmetic.specs.Ops.{zero_f}
use Rattle.float_values.specs.Laws.Floats.{neg-le-zero}
use Rattle.geom_lines_planes.specs.Geometry.{size_f}

pub size_below : (x : Float) → lt x zero_f ≡ true → neg x ≡ size_f x
unfolding lt neg size_f
size_below nan h = refl
size_below (inf true) h = refl
size_below (inf false) h = cc
size_below (fin true m e) h = refl
size_below (fin false m e) h =
    let l : m * up e * 1 < 0 * down e = ltb-true (m * up e * 1) (0 * down e) h in
    let z = zero-mul (down e) in
    absurd (omega arith)

up_pos : (e : ℤ) → 0 < up e
up_pos (pos k) = pow_pos k
up_pos (negsuc k) = zero-lt-suc 0

-- a zero is written in one way
pub size-zero : (x : Float) → T (fits binary64 x) → eq x zero_f ≡ true → zero_f ≡ size_f x
unfolding eq size_f fits
size-zero nan f h = cc
size-zero (inf true) f h = cc
size-zero (inf false) f h = cc
size-zero (fin s (suc m) e) f h =
    let a = suc m * up e * 1 in
    let b : a ≡ 0 * down e = eqb→eq a (0 * down e) (and_l (eqb a (0 * down e)) (beq s false || eqb a 0) (subst T (sym h) tt)) in
    let z = zero-mul (down e) in
    let o = mul-one (suc m * up e) in
    let p : 0 < suc m * up e = mul-pos (zero-lt-suc m) (up_pos e) in
    absurd (omega arith)
size-zero (fin s zero (pos zero)) f h = refl
size-zero (fin s zero (pos (suc k))) f h = absurd (odd_power k (eqb→eq (2 ^ suc k * 1) 1 f))
  where
    odd_power : (k : ℕ) → 2 ^ suc k * 1 ≡ 1 → ⊥
    odd_power k e = let w = pow_pos k in omega arith
size-zero (fin s zero (negsuc k)) f h = absurd (odd_power k (eqb→eq (1 * 2 ^ suc k) 1 f))
  where
    odd_power : (k : ℕ) → 1 * 2 ^ suc k ≡ 1 → ⊥
    odd_power k e = let w = pow_pos k in omega arith

pub size_above : (x : Float) → lt x zero_f ≡ false → eq x zero_f ≡ false → x ≡ size_f x
unfolding le lt eq size_f
size_above nan h k = refl
size_above (inf true) h k = cc
size_above (inf false) h k = refl
size_above (fin false m e) h k = refl
size_above (fin true m e) h k = absurd (rw (h, k) at (neg-le-zero m e))
