-- When a sum of floats is exact (W-205). Definitions only.
use Rattle.std.specs.Prelude.{Bool, ◌&&◌, ℤ, ◌+ℤ◌, Float}
use Rattle.std.specs.Int.Signed.{le_z}
use Rattle.std.specs.Float.{binary64}
use Rattle.std.specs.Float.Ieee.{add}
use Rattle.std.specs.Float.Ieee.Scale.{finite}
use Rattle.float_values.specs.Value.{value}

-- two whole numbers are the same
abbrev pub equal : ℤ → ℤ → Bool
equal A B = le_z A B && le_z B A

-- W-205, "A sum or difference of finite bounds that is exact shall stay": the float's number is the sum of the numbers, all three finite; an overflow, an infinity or a not-a-number is not exact
unfoldable pub exact_sum : Float → Float → Bool
exact_sum a b = finite a && finite b && finite (add binary64 a b) && equal (value (add binary64 a b)) (value a +ℤ value b)
