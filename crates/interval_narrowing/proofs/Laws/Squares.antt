-- The square grows with the size, and so the square of a narrower interval is narrower: no square is a NaN. Assumes nothing.
use Rattle.std.proofs.Math.Path.{refl}
use Rattle.std.proofs.Common.{sym, subst, inl, inr, mul-pos, zero-lt-suc, arith, T_not}
use Rattle.std.specs.Prelude.{◌⊎◌, ℕ, suc, ◌+◌, ◌*◌, ◌<◌, Bool, true, false, not, T, Float}
use Rattle.std.proofs.Math.Dec.{not_T}
use Rattle.std.specs.Float.{nan, inf, fin, binary64}
use Rattle.std.specs.Float.Ieee.{fits, up, down, is_nan, neg, round, mul, le}
use Rattle.std.specs.Float.Ieee.Fits.{mul-fits, down_pos, and_l, and_r, and_i}
use Rattle.float_order.specs.Next.{next_up, next_down}
use Rattle.float_order.specs.Extremes.{least_f, greatest_f, square_low}
use Rattle.interval_arithmetic.specs.declared.Interval.{Interval}
use Rattle.interval_arithmetic.specs.Ops.{zero_f, contains_i, sqr_i}
use Rattle.float_values.specs.Laws.Order.{le-nums}
use Rattle.interval_enclosure.specs.Laws.Products.{mul-neg-neg, least_fits, greatest-fits}
use Rattle.interval_narrowing.specs.Narrow.{Sound, Within}
use Rattle.interval_narrowing.specs.Laws.Numbers.{beyond-both, reach}
use Rattle.interval_narrowing.specs.Laws.Order.{refl-le, trans_le, total-le, zero-num, neg-le}
use Rattle.interval_narrowing.specs.Laws.Rounding.{rounds-le}
use Rattle.interval_narrowing.specs.Laws.Ends.{bound-le, down_le, up_le, down-mono, up-mono, checked-within}
use Rattle.interval_narrowing.specs.Laws.Extremes.{least_first, least-second, greatest-first, greatest-second, least-both, greatest-both}
use Rattle.interval_narrowing.specs.Laws.Times.{times, times-swap, times-le, mul_is}
use Rattle.interval_narrowing.proofs.Laws.Sums.{low-in, high-in, wide}

abbrev square : Float → Float
square x = mul binary64 x x

-- ---- a square is not negative
at-least-zero : (N D : ℕ) → 0 < D → T (le zero_f (round binary64 false N D))
at-least-zero N D h = rounds-le 1 D zero_f (round binary64 false N D) 0 0 N 0 (zero-lt-suc 0) h
    (record { sign = false; size = 0; is = unfold round in refl; number = refl }) (record { sign = false; size = N; is = refl; number = refl }) (omega arith)

square-pos : (x : Float) → T (not (is_nan x)) → T (le zero_f (square x))
unfolding mul is_nan le
square-pos nan n = absurd n
square-pos (inf true) n = tt
square-pos (inf false) n = tt
square-pos (fin true m e) n = at-least-zero (m * up e * (m * up e)) (down e * down e) (mul-pos (down_pos e) (down_pos e))
square-pos (fin false m e) n = at-least-zero (m * up e * (m * up e)) (down e * down e) (mul-pos (down_pos e) (down_pos e))

square-num : (x : Float) → T (not (is_nan x)) → T (not (is_nan (square x)))
square-num x n = (le-nums zero_f (square x) (square-pos x n)).1

-- ---- and grows away from zero
square-up : (x y : Float) → T (le zero_f x) → T (le x y) → T (le (square x) (square y))
square-up x y h k = let i = beyond-both (reach x) (reach y) in go (suc (reach x + reach y)) i.0 i.1
  where
    go : (H : ℕ) → reach x < H → reach y < H → T (le (square x) (square y))
    go H i j =
        subst (λ (z : Float). T (le z (square y))) (sym (mul_is H x x i i (square-num x (le-nums x y k).0)))
        (subst (λ (z : Float). T (le (times H x x) z)) (sym (mul_is H y y j j (square-num y (le-nums x y k).1)))
        (trans_le (times H x x) (times H x y) (times H y y)
        (subst (λ (z : Float). T (le (times H x x) z)) (times-swap H y x) (times-le H x y x i j i k h))
        (times-le H x y y i j j k (trans_le zero_f x y h k))))

zero-back : T (le zero_f (neg zero_f))
unfolding le neg
zero-back = tt

square-down : (x y : Float) → T (le x zero_f) → T (le y x) → T (le (square x) (square y))
square-down x y h k =
    subst (λ (z : Float). T (le z (square y))) (mul-neg-neg x)
    (subst (λ (z : Float). T (le (square (neg x)) z)) (mul-neg-neg y)
    (square-up (neg x) (neg y) (trans_le zero_f (neg zero_f) (neg x) zero-back (neg-le x zero_f h)) (neg-le y x k)))

-- ---- the bounds of a square
abbrev least2 : Interval → Float
least2 x = least_f (square x.lo) (square x.hi)

abbrev greatest2 : Interval → Float
greatest2 x = greatest_f (square x.lo) (square x.hi)

abbrev low_end : Interval → Float
low_end x = square_low (contains_i x zero_f) (least2 x)

least2-fits : (x : Interval) → T (fits binary64 (least2 x))
least2-fits x = least_fits (square x.lo) (square x.hi) (mul-fits binary64 x.lo x.lo) (mul-fits binary64 x.hi x.hi)

greatest2-fits : (x : Interval) → T (fits binary64 (greatest2 x))
greatest2-fits x = greatest-fits (square x.lo) (square x.hi) (mul-fits binary64 x.lo x.lo) (mul-fits binary64 x.hi x.hi)

module _ (x : Interval) (h : Sound x) where
  lo-num : T (not (is_nan (square x.lo)))
  lo-num = square-num x.lo (le-nums x.lo x.hi h).0

  hi-num : T (not (is_nan (square x.hi)))
  hi-num = square-num x.hi (le-nums x.lo x.hi h).1

  least-lo : T (le (least2 x) (square x.lo))
  least-lo = least_first (square x.lo) (square x.hi) lo-num hi-num

  least-hi : T (le (least2 x) (square x.hi))
  least-hi = least-second (square x.lo) (square x.hi) lo-num hi-num

  lo-greatest : T (le (square x.lo) (greatest2 x))
  lo-greatest = greatest-first (square x.lo) (square x.hi) lo-num hi-num

  hi-greatest : T (le (square x.hi) (greatest2 x))
  hi-greatest = greatest-second (square x.lo) (square x.hi) lo-num hi-num

  step-num : T (not (is_nan (next_down (least2 x))))
  step-num = (le-nums (next_down (least2 x)) (least2 x) (down_le (least2 x) (least2-fits x) (le-nums (least2 x) (square x.lo) least-lo).0)).0

  low-to : (z : Float) → T (le zero_f z) → (T (not (contains_i x zero_f)) → T (le (next_down (least2 x)) z)) → T (le (low_end x) z)
  low-to z i j = go (contains_i x zero_f) j
    where
      go : (c : Bool) → (T (not c) → T (le (next_down (least2 x)) z)) → T (le (square_low c (least2 x)) z)
      go true k = i
      go false k = greatest-both (next_down (least2 x)) zero_f step-num zero-num z (k tt) i

  zero-low : T (le zero_f (low_end x))
  zero-low = go (contains_i x zero_f)
    where
      go : (c : Bool) → T (le zero_f (square_low c (least2 x)))
      go true = refl-le zero_f zero-num
      go false = greatest-second (next_down (least2 x)) zero_f step-num zero-num

  step-low : T (not (contains_i x zero_f)) → T (le (next_down (least2 x)) (low_end x))
  step-low = go (contains_i x zero_f)
    where
      go : (c : Bool) → T (not c) → T (le (next_down (least2 x)) (square_low c (least2 x)))
      go true k = absurd k
      go false k = greatest-first (next_down (least2 x)) zero_f step-num zero-num

  ends : T (le (low_end x) (next_up (greatest2 x)))
  ends =
      let g : T (le (square x.lo) (next_up (greatest2 x))) = trans_le (square x.lo) (greatest2 x) (next_up (greatest2 x)) lo-greatest (up_le (greatest2 x) (greatest2-fits x) (le-nums (square x.lo) (greatest2 x) lo-greatest).1) in
      low-to (next_up (greatest2 x)) (trans_le zero_f (square x.lo) (next_up (greatest2 x)) (square-pos x.lo (le-nums x.lo x.hi h).0) g)
      (λ _. trans_le (next_down (least2 x)) (least2 x) (next_up (greatest2 x)) (down_le (least2 x) (least2-fits x) (le-nums (least2 x) (square x.lo) least-lo).0)
      (trans_le (least2 x) (square x.lo) (next_up (greatest2 x)) least-lo g))

  -- an interval without zero lies on one side of it
  outside : T (not (contains_i x zero_f)) → T (le zero_f x.lo) ⊎ T (le x.hi zero_f)
  outside n = elim (total-le zero_f x.lo zero-num (le-nums x.lo x.hi h).0) [
    | inl k ↦ inl k
    | inr k ↦ elim (total-le x.hi zero_f (le-nums x.lo x.hi h).1 zero-num) [
      | inl l ↦ inr l
      | inr l ↦ absurd (T_not (contains_i x zero_f) n (and_i (le x.lo zero_f) (le zero_f x.hi) k l))
    ]
  ]

  -- what lies in the interval
  module _ (v : Float) (i : T (le x.lo v)) (j : T (le v x.hi)) where
    square-high : T (le (square v) (greatest2 x))
    square-high = elim (total-le zero_f v zero-num (le-nums v x.hi j).0) [
      | inl k ↦ trans_le (square v) (square x.hi) (greatest2 x) (square-up v x.hi k j) hi-greatest
      | inr k ↦ trans_le (square v) (square x.lo) (greatest2 x) (square-down v x.lo k i) lo-greatest
    ]

    square-low : T (not (contains_i x zero_f)) → T (le (least2 x) (square v))
    square-low n = elim (outside n) [
      | inl k ↦ trans_le (least2 x) (square x.lo) (square v) least-lo (square-up x.lo v k i)
      | inr k ↦ trans_le (least2 x) (square x.hi) (square v) least-hi (square-down x.hi v k j)
    ]

-- ---- the square of a narrower interval
pub sqr-narrow : (x x' : Interval) → Within x x' → Within (sqr_i x) (sqr_i x')
unfolding sqr_i
sqr-narrow x x' h =
    checked-within (low_end x) (next_up (greatest2 x)) (low_end x') (next_up (greatest2 x')) (λ s. bound-le s (low_end x) (next_up (greatest2 x)) (ends x h.sound)) (λ s. bound-le s (low_end x') (next_up (greatest2 x')) (ends x' sound'))
    (bound-le true (low_end x') (low_end x) (low-to x' sound' (low_end x) (zero-low x h.sound) low))
    (bound-le false (next_up (greatest2 x)) (next_up (greatest2 x')) (up-mono (greatest2 x) (greatest2 x') (greatest2-fits x) (greatest2-fits x') high))
  where
    sound' : Sound x'
    sound' = wide x x' h

    spans : T (not (contains_i x' zero_f)) → T (not (contains_i x zero_f))
    spans n = not_T (contains_i x zero_f) (λ t. T_not (contains_i x' zero_f) n
        (and_i (le x'.lo zero_f) (le zero_f x'.hi) (trans_le x'.lo x.lo zero_f h.low (and_l (le x.lo zero_f) (le zero_f x.hi) t)) (trans_le zero_f x.hi x'.hi (and_r (le x.lo zero_f) (le zero_f x.hi) t) h.high)))

    least : T (not (contains_i x' zero_f)) → T (le (least2 x') (least2 x))
    least n = least-both (square x.lo) (square x.hi) (lo-num x h.sound) (hi-num x h.sound) (least2 x')
        (square-low x' sound' x.lo h.low (low-in x x' h) n) (square-low x' sound' x.hi (high-in x x' h) h.high n)

    low : T (not (contains_i x' zero_f)) → T (le (next_down (least2 x')) (low_end x))
    low n = trans_le (next_down (least2 x')) (next_down (least2 x)) (low_end x) (down-mono (least2 x') (least2 x) (least2-fits x') (least2-fits x) (least n)) (step-low x h.sound (spans n))

    high : T (le (greatest2 x) (greatest2 x'))
    high = greatest-both (square x.lo) (square x.hi) (lo-num x h.sound) (hi-num x h.sound) (greatest2 x')
        (square-high x' sound' x.lo h.low (low-in x x' h)) (square-high x' sound' x.hi (high-in x x' h) h.high)
