-- `slab_axes::signed_axis` meets its contract. Assumes nothing.
use Rattle.meaning_slabs.specs.Slabs.{signed_axis}
use borrow.Author.Rules.{rules}
use Rattle.slab_axes.proofs.signed_axis.Goals as goal

pub returns : goal.returns
unfolding signed_axis
returns c = rw (c.unit.ensures, c.nought.ensures, c.nought-2.ensures, c.nought-3.ensures, c.unit-2.ensures, c.nought-4.ensures, c.nought-5.ensures, c.nought-6.ensures, c.unit-3.ensures)
