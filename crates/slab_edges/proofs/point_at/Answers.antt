-- `slab_edges::point_at` meets its contract. Assumes nothing.
use Rattle.memory_records.specs.Seen.{seen_vertex}
use Rattle.slab_edges.proofs.point_at.Goals as goal

pub returns : goal.returns
unfolding seen_vertex
returns c = rw c.vertex_at.ensures
