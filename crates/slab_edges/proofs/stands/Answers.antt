-- `slab_edges::stands` meets its contract. Assumes nothing.
use Rattle.slab_edges.specs.Tested.{stands_at}
use mathlib.Core.Path.{refl}
use Rattle.slab_edges.proofs.stands.Goals as goal

pub returns : goal.returns
unfolding stands_at
returns c = refl
