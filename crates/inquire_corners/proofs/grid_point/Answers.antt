-- `inquire_corners::grid_point` meets its contract. Assumes nothing.
use borrow.Author.Rules.{rules}
use Rattle.inquire_corners.proofs.grid_point.Goals as goal

pub returns : goal.returns
returns c = rw (c.on_grid.ensures, c.on_grid-2.ensures, c.on_grid-3.ensures)
