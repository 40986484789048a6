-- `split_stop_place::point_stop` meets its contract. Assumes nothing.
use Rattle.split_stop_place.specs.PlaceRows.{point_told}
use Rattle.split_stop_place.proofs.point_stop.Goals as goal

pub returns : goal.returns
unfolding point_told
returns c = rw (c.first-2.ensures, c.first.ensures, c.of_edge-2.ensures, c.unless-3.ensures, c.of_edge.ensures, c.unless-2.ensures, c.on_edge.ensures, c.unless.ensures, c.is_finite.ensures, c.is_positive-to.ensures, c.apart-2.ensures, c.is_positive-from.ensures, c.apart.ensures)
