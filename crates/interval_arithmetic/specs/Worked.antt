-- Worked examples, which antt computes: 1 + 2 as an interval, signs, a square and products. Assumes nothing.
use Rattle.std.specs.Prelude.{◌≡◌, refl, List, [], ◌∷◌, ℕ}
use Rattle.std.specs.Float.{binary64}
use Rattle.std.specs.Float.Ieee.{of_bits, to_bits, add, sub, mul, is_nan, le, lt, eq}
use Rattle.float_values.specs.Value.{ONE}
use Rattle.float_exact.specs.Exact.{exact_sum}
use Rattle.interval_arithmetic.specs.declared.Interval.{Interval}
use Rattle.interval_arithmetic.specs.declared.Sign.TheVariants.{Zero, Positive, Unresolved}
use Rattle.float_order.specs.Next.{next_up, next_down}
use Rattle.interval_arithmetic.specs.Ops.{point_i, add_i, sub_i, mul_i, sqr_i, sign_i}

-- the bits of both bounds
abbrev bits : Interval → List ℕ
bits x = to_bits binary64 x.lo ∷ to_bits binary64 x.hi ∷ []

abbrev at : ℕ → Interval
at b = point_i (of_bits binary64 b)

-- 1 + 2
one-and-two : bits (add_i (at 0x3ff0_0000_0000_0000) (at 0x4000_0000_0000_0000)) ≡ 0x4008_0000_0000_0000 ∷ 0x4008_0000_0000_0000 ∷ []
unfolding of_bits to_bits add is_nan next_up next_down exact_sum ONE point_i add_i sub_i mul_i sqr_i sign_i
one-and-two = refl

-- ---- the signs of 1 - 1, 2 - 1 and 1 - 2; and the square of [-1, 2] starts at 0
ones : Interval
ones = sub_i (at 0x3ff0_0000_0000_0000) (at 0x3ff0_0000_0000_0000)

sign-equal : sign_i ones ≡ Zero
unfolding ones of_bits to_bits sub add is_nan next_up next_down exact_sum ONE lt eq point_i add_i sub_i mul_i sqr_i sign_i
sign-equal = refl

-- an interval that spans zero
sign-mixed : sign_i (record { lo = of_bits binary64 0xbff0_0000_0000_0000; hi = of_bits binary64 0x4000_0000_0000_0000 }) ≡ Unresolved
unfolding of_bits lt eq sign_i
sign-mixed = refl

sign-positive : sign_i (sub_i (at 0x4000_0000_0000_0000) (at 0x3ff0_0000_0000_0000)) ≡ Positive
unfolding of_bits to_bits sub add is_nan next_up next_down exact_sum ONE lt eq point_i add_i sub_i mul_i sqr_i sign_i
sign-positive = refl

sign_zero : sign_i (at 0x8000_0000_0000_0000) ≡ Zero
unfolding of_bits is_nan lt eq point_i add_i sub_i mul_i sqr_i sign_i
sign_zero = refl

square-spanning : bits (sqr_i (record { lo = of_bits binary64 0xbff0_0000_0000_0000; hi = of_bits binary64 0x4000_0000_0000_0000 })) ≡ 0 ∷ 0x4010_0000_0000_0001 ∷ []
unfolding of_bits to_bits mul is_nan next_up next_down le point_i add_i sub_i mul_i sqr_i sign_i
square-spanning = refl

-- [-1, 2] * [3, +infinity] is the whole line; [0, 0] * [3, +infinity] has a NaN among its products
product_wide : bits (mul_i (record { lo = of_bits binary64 0xbff0_0000_0000_0000; hi = of_bits binary64 0x4000_0000_0000_0000 }) (record { lo = of_bits binary64 0x4008_0000_0000_0000; hi = of_bits binary64 0x7ff0_0000_0000_0000 }))
    ≡ 0xfff0_0000_0000_0000 ∷ 0x7ff0_0000_0000_0000 ∷ []
unfolding of_bits to_bits mul is_nan next_up next_down le point_i add_i sub_i mul_i sqr_i sign_i
product_wide = refl

product-nan : bits (mul_i (at 0) (record { lo = of_bits binary64 0x4008_0000_0000_0000; hi = of_bits binary64 0x7ff0_0000_0000_0000 })) ≡ 0xfff0_0000_0000_0000 ∷ 0x7ff0_0000_0000_0000 ∷ []
unfolding of_bits to_bits mul is_nan next_up next_down le point_i add_i sub_i mul_i sqr_i sign_i
product-nan = refl
