-- `split_stop_edge::parts::vertices_stop` meets its contract. Assumes nothing.
use Rattle.split_stop_edge.specs.EdgeRows.{vertices_told}
use Rattle.split_stop_edge.proofs.parts.vertices_stop.Goals as goal

pub returns : goal.returns
unfolding vertices_told
returns c = rw (c.first.ensures, c.of_edge-2.ensures, c.unless-2.ensures, c.of_edge.ensures, c.unless.ensures)
