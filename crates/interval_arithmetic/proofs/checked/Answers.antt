-- `interval_arithmetic::checked` meets its contract: each arm returns what `checked_i` picks where its tests are as the arm found them. Assumes nothing.
use mathlib.Core.Path.{sym, ◌∙◌}
use lib.Ieee.{div, neg, of_bits}
use Rattle.float_order.proofs.Bits.{ne-self}
use Rattle.interval_arithmetic.proofs.checked.Goals as goal

pub returns-then-lo : goal.returns-then-lo
unfolding div neg of_bits
returns-then-lo c = rw (sym (ne-self c.args.lo) ∙ c.if-lo.true)

pub returns-then-hi : goal.returns-then-hi
unfolding div neg of_bits
returns-then-hi c = rw (sym (ne-self c.args.lo) ∙ c.if-lo.false, sym (ne-self c.args.hi) ∙ c.if-hi.true)

pub returns : goal.returns
returns c = rw (sym (ne-self c.args.lo) ∙ c.if-lo.false, sym (ne-self c.args.hi) ∙ c.if-hi.false)
