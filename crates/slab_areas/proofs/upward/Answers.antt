-- `slab_areas::upward` meets its contract. Assumes nothing.
use borrow.Author.Tests.{eq-eqb, ne_eqb}
use Rattle.slab_areas.proofs.upward.Goals as goal

pub returns-then-axis-eq2 : goal.returns-then-axis-eq2
returns-then-axis-eq2 c = rw (eq-eqb _ 2 c.if-axis-eq2.true)

pub returns : goal.returns
returns c = rw (ne_eqb _ 2 c.if-axis-eq2.false)
