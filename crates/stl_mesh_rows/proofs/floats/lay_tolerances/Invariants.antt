-- `stl_mesh_rows::floats::lay_tolerances` meets its contract: a turn of the loop is one record's floats. Assumes nothing.
use Rattle.std.specs.Prelude.{◌≡◌}
use Rattle.stl_rows.specs.Rows.{reals_behind, edge_floats}
use Rattle.stl_mesh_rows.proofs.floats.lay_tolerances.Given as goal

abbrev pub invariant-loop-k : goal.invariant-loop-k
invariant-loop-k l = l.reals ≡ reals_behind l.room 6 l.first edge_floats l.k l.initial.reals
