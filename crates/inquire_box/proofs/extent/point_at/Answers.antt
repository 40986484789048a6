-- `inquire_box::extent::point_at` meets its contract. Assumes nothing.
use Rattle.memory_records.specs.Seen.{seen_vertex}
use Rattle.inquire_box.proofs.extent.point_at.Goals as goal

pub returns : goal.returns
unfolding seen_vertex
returns c = rw c.vertex_at.ensures
