-- The yard's grid of sixteenths of a millimetre (W-201). Definitions only.
-- `fin s m e` is m * 2 ^ e, and 2 ^ e is the fraction up e / down e: a size of m * up e * 16 / down e sixteenths.
use Rattle.std.specs.Prelude.{ℕ, ◌*◌, ◌/◌, ◌%◌, Bool, true, false, ◌&&◌, ℤ, pos, neg_ℤ, ◌==◌, nat_le, Float}
use Rattle.std.specs.Float.{nan, inf, fin}
use Rattle.std.specs.Float.Ieee.{up, down}

-- "Coordinates that are whole sixteenths of a millimetre, at most 2,048 mm in size": 2,048 mm are 32,768 sixteenths
unfoldable pub on_grid : Float → Bool
on_grid nan = false
on_grid (inf s) = false
on_grid (fin s m e) = m * up e * 16 % down e == 0 && nat_le (m * up e * 16 / down e) 32768

-- a size with a sign; both zeros are 0
abbrev pub signed : Bool → ℕ → ℤ
signed true n = neg_ℤ (pos n)
signed false n = pos n

-- how many sixteenths a float is, 0 off the grid, where a coordinate is refused and nobody reads it
abbrev pub counted : Bool → Bool → ℕ → ℤ
counted true s n = signed s n
counted false s n = pos 0

unfoldable pub sixteenths : Float → ℤ
sixteenths nan = pos 0
sixteenths (inf s) = pos 0
sixteenths (fin s m e) = counted (on_grid (fin s m e)) s (m * up e * 16 / down e)
