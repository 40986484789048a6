-- The operations on intervals (01, "Intervals"; interval.rs), over IEEE 754 as `lib.Ieee` has it. Definitions only.
-- Those that a caller sees are `unfoldable`: each names its operands several times, and a chain of a dozen would be too long to compute if they opened by themselves.
use Rattle.std.specs.Prelude.{Bool, true, false, cond, ◌&&◌, Float}
use Rattle.std.specs.Float.{inf, binary64}
use Rattle.std.specs.Float.Ieee.{is_nan, add, mul, neg, lt, le, eq}
use Rattle.float_order.specs.Next.{next_up, next_down}
use Rattle.float_order.specs.Extremes.{least_f, greatest_f, square_low}
use Rattle.float_order.specs.Extremes as Extremes
use Rattle.float_exact.specs.Exact.{exact_sum}
use Rattle.interval_arithmetic.specs.declared.Interval.{Interval}
use Rattle.interval_arithmetic.specs.declared.Sign.{Sign}
use Rattle.interval_arithmetic.specs.declared.Sign.TheVariants.{Negative, Zero, Positive, Unresolved}

-- +0
abbrev pub zero_f : Float
zero_f = Extremes.zero_f

-- the whole line (`Interval::ENTIRE`)
abbrev pub entire : Interval
entire = record { lo = inf true; hi = inf false }

-- 01, "A not-a-number bound gives the whole line" (`Interval::checked`)
abbrev pub checked_i : Float → Float → Interval
checked_i lo hi = cond (is_nan lo) entire (cond (is_nan hi) entire (record { lo = lo; hi = hi }))

-- 01, "then the low bound moves one float down and the high one up": so a product
abbrev pub outward_i : Float → Float → Interval
outward_i lo hi = checked_i (next_down lo) (next_up hi)

-- 01, "A point has both equal"
unfoldable pub point_i : Float → Interval
point_i x = checked_i x x

-- 01, "A sum, difference or product is worked out in floats", then moved; W-205, "A sum or difference of finite bounds that is exact shall stay; any other moves": each bound is judged by itself
abbrev pub low_sum : Float → Float → Float
low_sum a b = let s = add binary64 a b in cond (exact_sum a b) s (next_down s)

abbrev pub high_sum : Float → Float → Float
high_sum a b = let s = add binary64 a b in cond (exact_sum a b) s (next_up s)

unfoldable pub add_i : Interval → Interval → Interval
add_i x y = checked_i (low_sum x.lo y.lo) (high_sum x.hi y.hi)

-- a - b is a + (-b), also in floats (`sub` of lib.Ieee)
unfoldable pub sub_i : Interval → Interval → Interval
sub_i x y = checked_i (low_sum x.lo (neg y.hi)) (high_sum x.hi (neg y.lo))

-- 01, "products take the least and greatest of the four"
abbrev pub least4 : Float → Float → Float → Float → Float
least4 a b c d = least_f (least_f a b) (least_f c d)

abbrev pub greatest4 : Float → Float → Float → Float → Float
greatest4 a b c d = greatest_f (greatest_f a b) (greatest_f c d)

abbrev pub on_products : (Float → Float → Float → Float → Float) → Interval → Interval → Float
on_products f x y = f (mul binary64 x.lo y.lo) (mul binary64 x.lo y.hi) (mul binary64 x.hi y.lo) (mul binary64 x.hi y.hi)

unfoldable pub mul_i : Interval → Interval → Interval
mul_i x y = outward_i (on_products least4 x y) (on_products greatest4 x y)

-- `neg`: a change of sign is exact, and moves no bound
unfoldable pub neg_i : Interval → Interval
neg_i x = checked_i (neg x.hi) (neg x.lo)

-- `contains`: the value lies between the bounds
abbrev pub contains_i : Interval → Float → Bool
contains_i x v = le x.lo v && le v x.hi

unfoldable pub sqr_i : Interval → Interval
sqr_i x =
    let a = mul binary64 x.lo x.lo in
    let b = mul binary64 x.hi x.hi in
    checked_i (square_low (contains_i x zero_f) (least_f a b)) (next_up (greatest_f a b))

-- 01, "Sign: positive if low > 0, negative if high < 0, zero if both are 0, else unresolved"
abbrev pub pick_sign : Bool → Sign → Sign → Sign
pick_sign true a b = a
pick_sign false a b = b

abbrev pub sign_of : Float → Float → Sign
sign_of lo hi = pick_sign (lt zero_f lo) Positive (pick_sign (lt hi zero_f) Negative (pick_sign (eq lo zero_f && eq hi zero_f) Zero Unresolved))

unfoldable pub sign_i : Interval → Sign
sign_i x = sign_of x.lo x.hi
