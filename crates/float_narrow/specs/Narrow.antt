-- The binary32 values among the floats (W-209). Definitions only.
use Rattle.std.specs.Prelude.{ℕ, Bool, false, cond, Float}
use Rattle.std.specs.Float.{nan, inf, fin, binary32}
use Rattle.std.specs.Float.Ieee.{fits, to_bits}

-- "5 for a coordinate that is not finite or would lose bits": a finite number that binary32 holds, both zeros and its subnormals among them
unfoldable pub narrow : Float → Bool
narrow nan = false
narrow (inf s) = false
narrow (fin s m e) = fits binary32 (fin s m e)

-- its pattern there; 0 of any other float, where a coordinate is refused and nobody reads it
unfoldable pub narrow_bits : Float → ℕ
narrow_bits x = cond (narrow x) (to_bits binary32 x) 0
