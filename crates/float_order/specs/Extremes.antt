-- The lesser and the greater of two floats, and the low bound of a square (01, "Intervals"; interval.rs). Definitions only.
use Rattle.std.specs.Prelude.{Bool, false, cond, pos, Float}
use Rattle.std.specs.Float.{nan, fin}
use Rattle.std.specs.Float.Ieee.{le}
use Rattle.float_order.specs.Next.{next_down}

-- +0
abbrev pub zero_f : Float
zero_f = fin false 0 (pos 0)

-- the lesser and the greater of two; a NaN where one of them is
abbrev pub least_f : Float → Float → Float
least_f a b = cond (le a b) a (cond (le b a) b nan)

abbrev pub greatest_f : Float → Float → Float
greatest_f a b = cond (le b a) a (cond (le a b) b nan)

-- 01, "A square spanning zero starts at 0; none's low bound is below 0"
abbrev pub square_low : Bool → Float → Float
square_low spans q = cond spans zero_f (greatest_f (next_down q) zero_f)
