-- `interval_arithmetic::Interval::sign` meets its contract: what its calls ensure, put together, is `sign_i`. Assumes nothing.
use borrow.Author.Rules.{rules}
use Rattle.interval_arithmetic.specs.Ops.{sign_i}
use Rattle.interval_arithmetic.proofs.Interval.sign.Goals as goal

pub returns : goal.returns
unfolding sign_i
returns c = c.sign_of.ensures
