-- `replay_digits::float_of` is safe: up to the infinity's, a pattern with the sign's bit taken off is no NaN's. Assumes nothing.
use Rattle.float_order.proofs.Bits.{pattern-no-nan}
use borrow.Author.Rules.{rules}
use Rattle.replay_digits.proofs.float_of.Goals as goal

pub float_from_bits-result : goal.float_from_bits-result
float_from_bits-result c = pattern-no-nan c.args.b c.if-b-le9218868437227405312.true
