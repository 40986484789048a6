-- `replay_digits::bits_of` is safe: what is not unlike itself is no NaN. Assumes nothing.
use Rattle.float_order.proofs.Bits.{is-num}
use borrow.Author.Rules.{rules}
use Rattle.replay_digits.proofs.bits_of.Goals as goal

pub float_to_bits-result : goal.float_to_bits-result
float_to_bits-result c = is-num c.args.x c.if-x.false
