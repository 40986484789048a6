-- `slab_axes::axis_of` meets its contract. Assumes nothing.
use Rattle.meaning_slabs.specs.Slabs.{axis_of}
use borrow.Author.Rules.{rules}
use Rattle.slab_axes.proofs.axis_of.Goals as goal

pub returns-then-unit : goal.returns-then-unit
unfolding axis_of
returns-then-unit c = rw (← c.unit.ensures, c.if-unit.true)

pub returns-then-unit-2 : goal.returns-then-unit-2
unfolding axis_of
returns-then-unit-2 c = rw (← c.unit.ensures, c.if-unit.false, ← c.unit-2.ensures, c.if-unit-2.true)

pub returns : goal.returns
unfolding axis_of
returns c = rw (← c.unit.ensures, c.if-unit.false, ← c.unit-2.ensures, c.if-unit-2.false)
