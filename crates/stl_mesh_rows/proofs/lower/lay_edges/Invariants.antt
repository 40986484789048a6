-- `stl_mesh_rows::lower::lay_edges` meets its contract: a turn of the loop is one edge more. Assumes nothing.
use Rattle.stl_rows.specs.Facts.{Grown, flat_edge_row}
use Rattle.stl_mesh_rows.proofs.lower.lay_edges.Given as goal

abbrev pub invariant-loop-k : goal.invariant-loop-k
invariant-loop-k l = Grown l.room 6 (flat_edge_row l.vertex l.fin l.n l.edges l.ends) l.initial.words l.words l.k
