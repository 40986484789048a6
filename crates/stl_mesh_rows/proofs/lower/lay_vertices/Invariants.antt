-- `stl_mesh_rows::lower::lay_vertices` meets its contract: a turn of the loop is one vertex more. Assumes nothing.
use Rattle.stl_rows.specs.Rows.{vertex_row}
use Rattle.stl_rows.specs.Facts.{Grown}
use Rattle.stl_mesh_rows.proofs.lower.lay_vertices.Given as goal

abbrev pub invariant-loop : goal.invariant-loop
invariant-loop l = Grown l.room 7 vertex_row l.initial.words l.words l.counter
