-- `split_stop_edge::parts::ends_stop` meets its contract. Assumes nothing.
use Rattle.split_stop_edge.specs.EdgeRows.{ends_told}
use Rattle.split_stop_edge.proofs.parts.ends_stop.Goals as goal

pub returns : goal.returns
unfolding ends_told
returns c = rw (c.first.ensures, c.on_edge-end.ensures, c.unless-2.ensures, c.on_edge-start.ensures, c.unless.ensures)
