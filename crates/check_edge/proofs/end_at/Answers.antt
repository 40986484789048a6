-- `check_edge::end_at` meets its contract: the curve's test, then the surface's. Assumes nothing.
use Rattle.check_edge.specs.Edge.{end_at}
use Rattle.check_reasons.specs.Laws.{enough-first, enough-then, noted-then}
use borrow.Author.Rules.{rules}
use Rattle.check_edge.proofs.end_at.Goals as goal

pub curve_test-a-requires : goal.curve_test-a-requires
unfolding end_at
curve_test-a-requires c = enough-first _ _ _ c.requires

pub point_on_surface-requires : goal.point_on_surface-requires
unfolding end_at
point_on_surface-requires c = record { n_nonzero = search rules; enough = enough-then c.requires c.curve_test-a.ensures }

pub returns : goal.returns
unfolding end_at
returns c = noted-then c.curve_test-a.ensures c.point_on_surface.ensures
