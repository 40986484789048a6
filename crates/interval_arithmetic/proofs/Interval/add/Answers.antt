-- `interval_arithmetic::Interval::add` meets its contract: what its calls ensure, put together, is `add_i`. Assumes nothing.
use mathlib.Core.Path.{ap₂, ◌∙◌}
use borrow.Author.Rules.{rules}
use Rattle.interval_arithmetic.specs.Ops.{checked_i, add_i}
use Rattle.interval_arithmetic.proofs.Interval.add.Goals as goal

pub returns : goal.returns
unfolding add_i
returns c = c.checked.ensures ∙ ap₂ checked_i c.low_sum.ensures c.high_sum.ensures
