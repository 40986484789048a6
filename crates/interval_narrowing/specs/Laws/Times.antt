-- The product of floats as one of fractions, an infinity the number H: it keeps the order in each factor by the other's sign. Assumes nothing.
use Rattle.std.specs.Prelude.{◌≡◌, Bool, true, false, not, cond, T, eqb, ℤ, Float}
use Rattle.std.proofs.Math.Path.{refl, sym, ap}
use Rattle.std.proofs.Common.{◌∙◌, subst, le_trans, add-mul, mul_assoc, mul_comm, mul_left_comm, mul-le-mul_right, mul-le-mul_left, mul-one, one-mul, mul-pos, arith}
use Prim.Native.Nat.{ℕ, zero, suc, ◌+◌, ◌*◌, ◌≤◌, ◌<◌}
use Rattle.std.proofs.Math.Nat.{zero-lt-suc}
use Rattle.std.specs.Float.Ieee.{nan, binary64, up, down, unlike, is_nan, round, mul, le}
use Rattle.std.specs.Float.{inf, fin}
use Rattle.std.specs.Float.Ieee.Fits.{up_pos, down_pos}
use Rattle.std.specs.Float.Ieee.Positive.{den, den_pos}
use Rattle.std.proofs.lemmas.Bool.{eqb-false}
use Rattle.interval_arithmetic.specs.Ops.{zero_f}
use Rattle.interval_enclosure.specs.Laws.Products.{rearrange}
use Rattle.interval_narrowing.specs.Laws.Numbers.{BIG, sign, size, right, left, reach, order-to}
use Rattle.float_values.specs.Laws.Adjacent.{ninf-le}
use Rattle.interval_narrowing.specs.Laws.Order.{refl-le}
use Rattle.interval_narrowing.specs.Laws.Rounding.{Rounds, rounds-le, rounds-num, overflows}
use Rattle.interval_narrowing.specs.Laws.Ends.{bound}

-- zero times an infinity is zero
abbrev pub times : ℕ → Float → Float → Float
times H x y = round binary64 (unlike (sign x) (sign y)) (size H x * size H y) (den x * den y)

signed : (s t : Bool) (a b : ℕ) → cond s 0 a * cond t 0 b + cond s a 0 * cond t b 0 + cond (unlike s t) (a * b) 0 ≡ cond (unlike s t) 0 (a * b) + (cond s 0 a * cond t b 0 + cond s a 0 * cond t 0 b)
signed true true a b = omega arith
signed true false a b = omega arith
signed false true a b = omega arith
signed false false a b = omega arith

times-rounds : (H : ℕ) (x y : Float) → Rounds (den x * den y) (times H x y) (right H x * right H y + left H x * left H y) (right H x * left H y + left H x * right H y)
times-rounds H x y = record { sign = unlike (sign x) (sign y); size = size H x * size H y; is = refl; number = signed (sign x) (sign y) (size H x) (size H y) }

pub unlike-swap : (s t : Bool) → unlike s t ≡ unlike t s
unlike-swap true true = refl
unlike-swap true false = refl
unlike-swap false true = refl
unlike-swap false false = refl

pub times-swap : (H : ℕ) (x y : Float) → times H x y ≡ times H y x
times-swap H x y = rw (mul_comm (size H x) (size H y), mul_comm (den x) (den y), unlike-swap (sign x) (sign y))

-- (P - M) / A ≤ (P' - M') / A', both times (Q - N) / B, which is not negative
grown : (P M A P' M' A' Q N B : ℕ) → P * A' + M' * A ≤ P' * A + M * A' → N ≤ Q
    → (P * Q + M * N) * (A' * B) + (P' * N + M' * Q) * (A * B) ≤ (P' * Q + M' * N) * (A * B) + (P * N + M * Q) * (A' * B)
grown P M A P' M' A' Q N B h k =
    let x : _ ≤ _ = simp (add-mul, mul_assoc, mul_comm) at (mul-le-mul_right B (rearrange (P * A' + M' * A) (P' * A + M * A') N Q h k)) in
    simp (add-mul, mul_assoc, mul_left_comm) (omega arith)

module _ (H : ℕ) where
  zero_in : (y : Float) → reach y < H → reach zero_f < H
  zero_in y h = let w = mul-le-mul_left BIG (den_pos y) in omega arith

  not-below : (y : Float) → reach y < H → T (le zero_f y) → left H y ≤ right H y
  not-below y i h = let w = order-to H zero_f y (zero_in y i) i h in omega arith

  not-above : (y : Float) → reach y < H → T (le y zero_f) → right H y ≤ left H y
  not-above y i h = let w = order-to H y zero_f i (zero_in y i) h in omega arith

  pub times-le : (x x' y : Float) → reach x < H → reach x' < H → reach y < H → T (le x x') → T (le zero_f y) → T (le (times H x y) (times H x' y))
  times-le x x' y i i' j h k =
      rounds-le (den x * den y) (den x' * den y) (times H x y) (times H x' y) _ _ _ _ (mul-pos (den_pos x) (den_pos y)) (mul-pos (den_pos x') (den_pos y)) (times-rounds H x y) (times-rounds H x' y)
      (grown (right H x) (left H x) (den x) (right H x') (left H x') (den x') (right H y) (left H y) (den y) (order-to H x x' i i' h) (not-below y j k))

  pub times-ge : (x x' y : Float) → reach x < H → reach x' < H → reach y < H → T (le x x') → T (le y zero_f) → T (le (times H x' y) (times H x y))
  times-ge x x' y i i' j h k =
      rounds-le (den x' * den y) (den x * den y) (times H x' y) (times H x y) _ _ _ _ (mul-pos (den_pos x') (den_pos y)) (mul-pos (den_pos x) (den_pos y)) (times-rounds H x' y) (times-rounds H x y)
      (let w = grown (right H x) (left H x) (den x) (right H x') (left H x') (den x') (left H y) (right H y) (den y) (order-to H x x' i i' h) (not-above y j k) in omega arith)

  -- ---- `mul` is that product, unless it is a NaN
  far : (n d u : ℕ) → n + BIG * d < H → 0 < u → BIG * d ≤ H * u
  far n d u h k = let w = mul-le-mul_left H k in let v = mul-one H in omega arith

  mul-inf : (s t : Bool) (n : ℕ) (d : ℤ) → n * up d + BIG * down d < H → T (not (is_nan (cond (eqb n 0) nan (inf (unlike s t))))) → cond (eqb n 0) nan (inf (unlike s t)) ≡ round binary64 (unlike s t) (H * (n * up d)) (1 * down d)
  unfolding is_nan
  mul-inf s t n d i = go (eqb n 0) (eqb-false n 0)
    where
      some : (n : ℕ) → (n ≡ 0 → ⊥) → 0 < n
      some zero h = absurd (h refl)
      some (suc n) h = zero-lt-suc n

      go : (z : Bool) → (z ≡ false → n ≡ 0 → ⊥) → T (not (is_nan (cond z nan (inf (unlike s t))))) → cond z nan (inf (unlike s t)) ≡ round binary64 (unlike s t) (H * (n * up d)) (1 * down d)
      go true h k = absurd k
      go false h k = sym (overflows (unlike s t) (H * (n * up d)) (1 * down d) (subst (λ (z : ℕ). 0 < z) (sym (one-mul (down d))) (down_pos d))
          (subst (λ (z : ℕ). BIG * z ≤ H * (n * up d)) (sym (one-mul (down d))) (far (n * up d) (down d) (n * up d) i (mul-pos (some n (h refl)) (up_pos d)))))

  pub mul_is : (x y : Float) → reach x < H → reach y < H → T (not (is_nan (mul binary64 x y))) → mul binary64 x y ≡ times H x y
  unfolding mul
  mul_is nan y i j n = absurd (unfold is_nan in n)
  mul_is (inf s) nan i j n = absurd (unfold is_nan in n)
  mul_is (inf s) (inf t) i j n = sym (overflows (unlike s t) (H * H) (1 * 1) (zero-lt-suc 0) (far 0 1 H i (le_trans (zero-lt-suc _) i)))
  mul_is (inf s) (fin t m e) i j n = mul-inf s t m e j n
  mul_is (fin s m e) nan i j n = absurd (unfold is_nan in n)
  mul_is (fin s m e) (inf t) i j n = mul-inf s t m e i n ∙ ap (λ (z : ℕ). round binary64 (unlike s t) z (1 * down e)) (mul_comm H (m * up e)) ∙ ap (round binary64 (unlike s t) (m * up e * H)) (mul_comm 1 (down e))
  mul_is (fin s m e) (fin t n d) i j k = refl

  pub times-num : (x y : Float) → T (not (is_nan (times H x y)))
  times-num x y = rounds-num (den x * den y) (times H x y) _ _ (times-rounds H x y)

  pub mul_low : (x y : Float) → reach x < H → reach y < H → T (le (bound true (mul binary64 x y)) (times H x y))
  mul_low x y i j = go (is_nan (mul binary64 x y)) (mul_is x y i j)
    where
      go : (t : Bool) → (T (not t) → mul binary64 x y ≡ times H x y) → T (le (cond t (inf true) (mul binary64 x y)) (times H x y))
      go true e = ninf-le (times H x y) (times-num x y)
      go false e = subst (λ (z : Float). T (le z (times H x y))) (sym (e tt)) (refl-le (times H x y) (times-num x y))
