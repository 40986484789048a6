-- `slab_axes::unit` meets its contract. Assumes nothing.
use Rattle.slab_axes.specs.Laws.{one-bits}
use Rattle.slab_axes.proofs.unit.Goals as goal

pub returns : goal.returns
returns c = rw one-bits
