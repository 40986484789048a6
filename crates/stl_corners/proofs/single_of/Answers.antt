-- `stl_corners::single_of` meets its contract: the cast loses nothing. Assumes nothing.
use native.Mathlib.Omega.{arith}
use mathlib.Core.Path.{refl}
use Rattle.stl_corners.specs.Laws.{no_nan, widens, no_number}
use Rattle.stl_corners.proofs.single_of.Goals as goal

pub returns-then-bits-gt2139095040 : goal.returns-then-bits-gt2139095040
returns-then-bits-gt2139095040 c = no_number c.args.bits (omega arith)

pub float_from_bits-result : goal.float_from_bits-result
float_from_bits-result c = no_nan c.args.bits (omega arith)

pub float_to_float-result : goal.float_to_float-result
float_to_float-result c = widens c.args.bits (omega arith)

pub returns : goal.returns
returns c = refl
