-- `slab_axes::nought` meets its contract. Assumes nothing.
use Rattle.slab_axes.specs.Laws.{zero_bits}
use Rattle.slab_axes.proofs.nought.Goals as goal

pub returns : goal.returns
returns c = rw zero_bits
