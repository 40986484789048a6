-- `stl_mesh_rows::lower::lay_fins` meets its contract: a turn of the loop is one triangle more. Assumes nothing.
use Rattle.std.specs.Prelude.{◌*◌}
use Rattle.stl_rows.specs.Facts.{Grown, flat_fin_row}
use Rattle.stl_mesh_rows.proofs.lower.lay_fins.Given as goal

abbrev pub invariant-loop-j : goal.invariant-loop-j
invariant-loop-j l = Grown l.room 5 (flat_fin_row l.first l.edge l.n l.numbers l.edges) l.initial.words l.words (3 * l.j)
