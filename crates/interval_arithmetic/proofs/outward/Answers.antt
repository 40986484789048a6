-- `interval_arithmetic::outward` meets its contract: what its calls ensure, put together, is `outward_i`. Assumes nothing.
use mathlib.Core.Path.{ap₂, ◌∙◌}
use borrow.Author.Rules.{rules}
use Rattle.interval_arithmetic.specs.Ops.{checked_i}
use Rattle.interval_arithmetic.proofs.outward.Goals as goal

pub returns : goal.returns
returns c = c.checked.ensures ∙ ap₂ checked_i c.next_down.ensures c.next_up.ensures
