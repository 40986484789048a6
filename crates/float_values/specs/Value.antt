-- What number a float is. Definitions only.
-- A finite float is a whole number of units of 2 ^ -1074, the least `f64` above zero.
use Rattle.std.specs.Prelude.{ℕ, ◌*◌, ◌/◌, ◌^◌, true, false, ◌&&◌, ℤ, pos, neg_ℤ, T, Float}
use Rattle.std.specs.Float.{nan, inf, fin, binary64}
use Rattle.std.specs.Float.Ieee.{fits, up, down}
use Rattle.std.specs.Float.Ieee.Scale.{finite}

-- how many units make 1. It is shut, so that no check computes with the number
unfoldable pub ONE : ℕ
ONE = 2 ^ 1074

-- the size of a finite float in units: m * 2 ^ e of them times 2 ^ 1074. Nothing is cut off where `f64` holds the float
abbrev pub units : Float → ℕ
units nan = 0
units (inf s) = 0
units (fin s m e) = m * up e * ONE / down e

-- the number that a finite float is, in units
abbrev pub value : Float → ℤ
value nan = pos 0
value (inf s) = pos 0
value (fin false m e) = pos (units (fin false m e))
value (fin true m e) = neg_ℤ (pos (units (fin true m e)))

-- a finite number that `f64` holds
abbrev pub Real : Float → Type 0
Real a = T (fits binary64 a && finite a)
