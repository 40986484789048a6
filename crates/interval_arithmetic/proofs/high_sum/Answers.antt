-- `interval_arithmetic::high_sum` meets its contract: which way the test went. Assumes nothing.
use mathlib.Core.Path.{sym, ◌∙◌}
use borrow.Author.Rules.{rules}
use Rattle.interval_arithmetic.proofs.high_sum.Goals as goal

pub returns-then-exact_sum : goal.returns-then-exact_sum
returns-then-exact_sum c = rw (sym c.exact_sum.ensures ∙ c.if-exact_sum.true)

pub returns : goal.returns
returns c = rw (sym c.exact_sum.ensures ∙ c.if-exact_sum.false) c.next_up.ensures
