-- The laws of floats that the statements cite. Assumes nothing.
use Rattle.std.specs.Prelude.{◌≡◌, refl, ◌⊎◌, Bool, true, false, not, cond, T, Float, ℕ, suc, ◌+◌, ◌<◌}
use Rattle.std.proofs.Common.{sym, subst, inl, inr, arith}
use Rattle.std.specs.Float.{binary64}
use Rattle.std.specs.Float.Ieee.{is_nan, lt, le, mul}
use Rattle.float_values.specs.Laws.Order.{le-nums}
use Rattle.interval_arithmetic.specs.Ops.{zero_f}
use Rattle.interval_narrowing.specs.Laws.Numbers.{reach}
use Rattle.interval_narrowing.specs.Laws.Order.{trans_le, lt-le, lt_of}
use Rattle.interval_narrowing.specs.Laws.Times.{times, times-le, mul_is}

-- the larger of two, the first where neither is larger
abbrev pub larger : Float → Float → Float
larger a b = cond (lt a b) b a

-- where the first is a number and not less, the second is at most it
not-less : (a b : Float) → T (not (is_nan a)) → T (not (is_nan b)) → lt a b ≡ false → T (le b a)
not-less a b n m e = go (le b a) refl
  where
    go : (t : Bool) → le b a ≡ t → T (le b a)
    go true h = subst T (sym h) tt
    go false h = absurd (subst T e (lt_of a b n m (λ k. subst T h k)))

pub larger-is : (a b : Float) → (larger a b ≡ a) ⊎ (larger a b ≡ b)
larger-is a b = go (lt a b)
  where
    go : (t : Bool) → (cond t b a ≡ a) ⊎ (cond t b a ≡ b)
    go true = inr refl
    go false = inl refl

pub larger-rises : (a a' b b' : Float) → T (le a a') → T (le b b') → T (le (larger a b) (larger a' b'))
larger-rises a a' b b' h g = go (lt a b) (lt a' b') refl refl
  where
    go : (t u : Bool) → lt a b ≡ t → lt a' b' ≡ u → T (le (cond t b a) (cond u b' a'))
    go true true e f = g
    go true false e f = trans_le b b' a' g (not-less a' b' (le-nums a a' h).1 (le-nums b b' g).1 f)
    go false true e f = trans_le a a' b' h (lt-le a' b' (subst T (sym f) tt))
    go false false e f = h

-- a product with a factor that is not negative rises with the other, where both are numbers
pub product-rises : (x x' y : Float) → T (le x x') → T (le zero_f y) → T (not (is_nan (mul binary64 x y))) → T (not (is_nan (mul binary64 x' y)))
    → T (le (mul binary64 x y) (mul binary64 x' y))
product-rises x x' y h g n n' =
    let H : ℕ = suc (reach x + reach x' + reach y) in
    subst (λ (z : Float). T (le z (mul binary64 x' y))) (sym (mul_is H x y (in-x (reach x) (reach x') (reach y)) (in-z (reach x) (reach x') (reach y)) n))
    (subst (λ (z : Float). T (le (times H x y) z)) (sym (mul_is H x' y (in-y (reach x) (reach x') (reach y)) (in-z (reach x) (reach x') (reach y)) n'))
    (times-le H x x' y (in-x (reach x) (reach x') (reach y)) (in-y (reach x) (reach x') (reach y)) (in-z (reach x) (reach x') (reach y)) h g))
  where
    in-x : (a b c : ℕ) → a < suc (a + b + c)
    in-x a b c = omega arith

    in-y : (a b c : ℕ) → b < suc (a + b + c)
    in-y a b c = omega arith

    in-z : (a b c : ℕ) → c < suc (a + b + c)
    in-z a b c = omega arith
