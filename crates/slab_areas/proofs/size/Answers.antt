-- `slab_areas::size` meets its contract. Assumes nothing.
use Rattle.slab_areas.specs.Laws.{held-bits, size_is, size_fits}
use Rattle.slab_areas.proofs.size.Goals as goal

pub above-requires : goal.above-requires
above-requires c = held-bits c.args.v c.requires

pub below-requires : goal.below-requires
below-requires c = held-bits c.args.v c.requires

pub overflow_add-result : goal.overflow_add-result
overflow_add-result c = record { fits = size_fits c.args.v c.requires _ _ c.above.ensures c.below.ensures }

pub returns : goal.returns
returns c = size_is c.args.v c.requires _ _ c.above.ensures c.below.ensures
