-- `memory_reads::records::vertex_of` meets its contract. Assumes nothing.
use lib.Dec.{lit<}
use Rattle.memory_records.specs.Seen.{seen_vertex}
use Rattle.memory_records.specs.Laws.{within}
use Rattle.memory_reads.proofs.records.vertex_of.Goals as goal

pub point_of-requires : goal.point_of-requires
point_of-requires c = within 2 c.requires.1 (lit< tt)

pub bounds-w-0 : goal.bounds-w-0
bounds-w-0 c = within 0 c.requires.0 (lit< tt)

pub bounds-x-3 : goal.bounds-x-3
bounds-x-3 c = within 3 c.requires.1 (lit< tt)

pub returns : goal.returns
unfolding seen_vertex
returns c = λ i. record { point = c.point_of.ensures i; tolerance = c.tolerance_of.ensures i }
