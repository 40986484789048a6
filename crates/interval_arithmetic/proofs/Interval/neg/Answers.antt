-- `interval_arithmetic::Interval::neg` meets its contract: what its calls ensure, put together, is `neg_i`. Assumes nothing.
use borrow.Author.Rules.{rules}
use Rattle.interval_arithmetic.specs.Ops.{neg_i}
use Rattle.interval_arithmetic.proofs.Interval.neg.Goals as goal

pub returns : goal.returns
unfolding neg_i
returns c = c.checked.ensures
