-- `interval_arithmetic::sign_of` meets its contract: each arm returns what `sign_of` picks where its tests are as the arm found them. Assumes nothing.
use lib.Ieee.{of_bits}
use Rattle.interval_arithmetic.proofs.sign_of.Goals as goal

pub returns-then-lo : goal.returns-then-lo
unfolding of_bits
returns-then-lo c = rw c.if-lo.true

pub returns-then-hi : goal.returns-then-hi
unfolding of_bits
returns-then-hi c = rw (c.if-lo.false, c.if-hi.true)

pub returns-then-hi-2 : goal.returns-then-hi-2
unfolding of_bits
returns-then-hi-2 c = rw (c.if-lo.false, c.if-hi.false, c.if-lo-2.true, c.if-hi-2.true)

pub returns-else-hi-2 : goal.returns-else-hi-2
unfolding of_bits
returns-else-hi-2 c = rw (c.if-lo.false, c.if-hi.false, c.if-lo-2.true, c.if-hi-2.false)

pub returns-else-lo-2 : goal.returns-else-lo-2
unfolding of_bits
returns-else-lo-2 c = rw (c.if-lo.false, c.if-hi.false, c.if-lo-2.false)
