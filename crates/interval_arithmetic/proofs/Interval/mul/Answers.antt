-- `interval_arithmetic::Interval::mul` meets its contract: what its calls ensure, put together, is `mul_i`. Assumes nothing.
use mathlib.Core.Path.{ap₂, ◌∙◌}
use borrow.Author.Rules.{rules}
use Rattle.float_order.specs.Extremes.{least_f, greatest_f}
use Rattle.interval_arithmetic.specs.Ops.{outward_i, mul_i}
use Rattle.interval_arithmetic.proofs.Interval.mul.Goals as goal

pub returns : goal.returns
unfolding mul_i
returns c =
    let greatest2 = c in
    let least3 = greatest2 in
    c.outward.ensures
    ∙ ap₂ outward_i (least3.least-3.ensures ∙ ap₂ least_f least3.least.ensures least3.least-2.ensures)
    (c.greatest-3.ensures ∙ ap₂ greatest_f greatest2.greatest.ensures greatest2.greatest-2.ensures)
