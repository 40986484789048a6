-- `interval_arithmetic::Interval::sqr` meets its contract: what its calls ensure, put together, is `sqr_i`. Assumes nothing.
use mathlib.Core.Path.{ap, ap₂, ◌∙◌}
use borrow.Author.Rules.{rules}
use lib.Ieee.{of_bits}
use Rattle.float_order.specs.Next.{next_up}
use Rattle.float_order.specs.Extremes.{square_low}
use Rattle.interval_arithmetic.specs.Ops.{checked_i, sqr_i}
use Rattle.interval_arithmetic.proofs.Interval.sqr.Goals as goal

pub returns : goal.returns
unfolding sqr_i of_bits
returns c =
    let low = c in
    c.checked.ensures
    ∙ ap₂ checked_i (low.square_low.ensures ∙ ap₂ square_low low.contains.ensures low.least.ensures)
    (c.next_up.ensures ∙ ap next_up c.greatest.ensures)
