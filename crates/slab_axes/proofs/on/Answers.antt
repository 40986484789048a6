-- `slab_axes::on` meets its contract. Assumes nothing.
use Rattle.meaning_slabs.specs.Slabs.{on}
use borrow.Author.Tests.{eq-eqb, ne_eqb}
use Rattle.slab_axes.proofs.on.Goals as goal

pub returns-then-axis-eq0 : goal.returns-then-axis-eq0
unfolding on
returns-then-axis-eq0 c = rw (eq-eqb _ 0 c.if-axis-eq0.true)

pub returns-then-axis-eq1 : goal.returns-then-axis-eq1
unfolding on
returns-then-axis-eq1 c = rw (ne_eqb _ 0 c.if-axis-eq0.false, eq-eqb _ 1 c.if-axis-eq1.true)

pub returns : goal.returns
unfolding on
returns c = rw (ne_eqb _ 0 c.if-axis-eq0.false, ne_eqb _ 1 c.if-axis-eq1.false)
