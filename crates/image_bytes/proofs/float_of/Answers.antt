-- `image_bytes::float_of` meets its contract: what is above an infinity's pattern is not a number's. Assumes nothing.
use native.Mathlib.Omega.{arith}
use mathlib.Core.Path.{refl}
use Rattle.float_order.proofs.Bits.{pattern-no-nan}
use Rattle.image_bytes.specs.Patterns.{nan-float}
use Rattle.image_bytes.proofs.float_of.Goals as goal

pub returns-then-bits-gt9218868437227405312 : goal.returns-then-bits-gt9218868437227405312
returns-then-bits-gt9218868437227405312 c = nan-float c.args.bits (omega arith)

pub float_from_bits-result : goal.float_from_bits-result
float_from_bits-result c = pattern-no-nan c.args.bits (omega arith)

pub returns : goal.returns
returns c = refl
