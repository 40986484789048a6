-- `float_order::extremes::least` meets its contract: each arm returns what `least_f` picks where its tests are as the arm found them. Assumes nothing.
use lib.Ieee.{div, of_bits}
use Rattle.float_order.proofs.extremes.least.Goals as goal

pub returns-then-a-b : goal.returns-then-a-b
returns-then-a-b c = rw c.if-a-b.true

pub returns-then-b-a : goal.returns-then-b-a
returns-then-b-a c = rw (c.if-a-b.false, c.if-b-a.true)

pub returns : goal.returns
unfolding div of_bits
returns c = rw (c.if-a-b.false, c.if-b-a.false)
