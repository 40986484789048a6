-- `slab_axes::differing` meets its contract. Assumes nothing.
use Rattle.meaning_slabs.specs.Slabs.{differing}
use borrow.Author.Rules.{rules}
use native.Mathlib.Omega.{arith}
use Rattle.slab_axes.proofs.differing.Goals as goal

pub overflow_add-result : goal.overflow_add-result
overflow_add-result c = omega arith

pub overflow_add-result-2 : goal.overflow_add-result-2
overflow_add-result-2 c = omega arith

pub returns : goal.returns
unfolding differing
returns c = rw (c.differs.ensures.0, c.differs-2.ensures.0, c.differs-3.ensures.0)
