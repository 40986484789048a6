-- `split_stop_place::faces::off_stop` meets its contract. Assumes nothing.
use Rattle.split_stop_place.specs.FinRows.{off_told}
use Rattle.split_stop_place.proofs.faces.off_stop.Goals as goal

pub returns : goal.returns
unfolding off_told
returns c = rw (c.first-2.ensures, c.first.ensures, c.stop_at-3.ensures, c.stop_at-2.ensures, c.stop_at.ensures, c.within-at.ensures, c.off_plane-3.ensures, c.within-hi.ensures, c.off_plane-2.ensures, c.within-lo.ensures, c.off_plane.ensures)
