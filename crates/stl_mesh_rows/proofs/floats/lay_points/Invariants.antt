-- `stl_mesh_rows::floats::lay_points` meets its contract: a turn of the loop is one record's floats. Assumes nothing.
use Rattle.std.specs.Prelude.{◌≡◌}
use Rattle.stl_rows.specs.Rows.{reals_behind}
use Rattle.stl_rows.specs.Facts.{flat_vertex_floats}
use Rattle.stl_mesh_rows.proofs.floats.lay_points.Given as goal

abbrev pub invariant-loop-k : goal.invariant-loop-k
invariant-loop-k l = l.reals ≡ reals_behind l.room 7 l.first (flat_vertex_floats l.points) l.k l.initial.reals
