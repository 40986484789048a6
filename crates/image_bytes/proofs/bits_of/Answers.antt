-- `image_bytes::bits_of` meets its contract: what differs from itself is not a number. Assumes nothing.
use mathlib.Core.Path.{refl}
use Rattle.float_order.proofs.Bits.{is-num}
use Rattle.image_bytes.specs.Patterns.{nan-bits}
use Rattle.image_bytes.proofs.bits_of.Goals as goal

pub returns-then-x : goal.returns-then-x
returns-then-x c = nan-bits c.args.x c.if-x.true

pub float_to_bits-result : goal.float_to_bits-result
float_to_bits-result c = is-num c.args.x c.if-x.false

pub returns : goal.returns
returns c = refl
