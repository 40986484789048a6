-- `interval_arithmetic::Interval::point` meets its contract: what its calls ensure, put together, is `point_i`. Assumes nothing.
use borrow.Author.Rules.{rules}
use Rattle.interval_arithmetic.specs.Ops.{point_i}
use Rattle.interval_arithmetic.proofs.Interval.point.Goals as goal

pub returns : goal.returns
unfolding point_i
returns c = c.checked.ensures
