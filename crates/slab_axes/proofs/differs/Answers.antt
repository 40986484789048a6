-- `slab_axes::differs` meets its contract. Assumes nothing.
use mathlib.Core.Path.{refl}
use native.Mathlib.Omega.{arith}
use Rattle.slab_axes.proofs.differs.Goals as goal

pub returns-then-a-b : goal.returns-then-a-b
returns-then-a-b c = rw c.if-a-b.true (refl, omega arith)

pub returns : goal.returns
returns c = rw c.if-a-b.false (refl, omega arith)
