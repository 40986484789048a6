-- `interval_arithmetic::Interval::sub` meets its contract: what its calls ensure, put together, is `sub_i`. Assumes nothing.
use mathlib.Core.Path.{ap₂, ◌∙◌}
use borrow.Author.Rules.{rules}
use Rattle.interval_arithmetic.specs.Ops.{checked_i, sub_i}
use Rattle.interval_arithmetic.proofs.Interval.sub.Goals as goal

pub returns : goal.returns
unfolding sub_i
returns c = c.checked.ensures ∙ ap₂ checked_i c.low_sum.ensures c.high_sum.ensures
