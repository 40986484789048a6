-- `slab_areas::across` meets its contract. Assumes nothing.
use borrow.Author.Tests.{eq-eqb, ne_eqb}
use Rattle.slab_areas.proofs.across.Goals as goal

pub returns-then-axis-eq0 : goal.returns-then-axis-eq0
returns-then-axis-eq0 c = rw (eq-eqb _ 0 c.if-axis-eq0.true)

pub returns : goal.returns
returns c = rw (ne_eqb _ 0 c.if-axis-eq0.false)
