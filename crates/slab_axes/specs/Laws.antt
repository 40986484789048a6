-- The floats 1, -1 and 0 by their bits. Assumes nothing.
use Rattle.std.specs.Prelude.{◌≡◌, refl}
use Rattle.std.specs.Float.{binary64}
use Rattle.std.specs.Float.Ieee.{of_bits, of_int}
use Rattle.interval_arithmetic.specs.Ops.{zero_f}
use Rattle.meaning.specs.Floats.{float_of}

pub one-bits : of_bits binary64 0x3ff0_0000_0000_0000 ≡ float_of 1
unfolding of_bits of_int
one-bits = refl

pub zero_bits : of_bits binary64 0 ≡ zero_f
unfolding of_bits
zero_bits = refl
