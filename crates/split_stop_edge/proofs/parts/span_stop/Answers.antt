-- `split_stop_edge::parts::span_stop` meets its contract. Assumes nothing.
use Rattle.split_stop_edge.specs.EdgeRows.{span_told}
use Rattle.split_stop_edge.proofs.parts.span_stop.Goals as goal

pub returns : goal.returns
unfolding span_told
returns c = rw (c.first-3.ensures, c.first-2.ensures, c.first.ensures, c.on_edge.ensures, c.unless-4.ensures, c.on_edge-long.ensures, c.unless-3.ensures, c.is_positive.ensures, c.span.ensures, c.of_edge-to.ensures, c.unless-2.ensures, c.is_finite-2.ensures, c.of_edge-from.ensures, c.unless.ensures, c.is_finite.ensures, c.is_positive-increases.ensures, c.increasing.ensures, c.hi-hi.ensures, c.lo-lo.ensures)
