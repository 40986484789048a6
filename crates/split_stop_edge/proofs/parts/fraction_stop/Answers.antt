-- `split_stop_edge::parts::fraction_stop` meets its contract. Assumes nothing.
use Rattle.split_stop_parts.specs.Laws.{row-three}
use Rattle.split_place.specs.Laws.{one-bits}
use lib.Ieee.{of_bits}
use mathlib.Core.Path.{sym}
use Rattle.split_stop_edge.proofs.parts.fraction_stop.Goals as goal

pub returns : goal.returns
unfolding of_bits
returns c = rw (c.first-2.ensures, c.first.ensures, c.on_edge.ensures, c.unless-3.ensures, c.is_finite.ensures, c.on_edge-below.ensures, c.unless-2.ensures, c.on_edge-above.ensures, c.unless.ensures, one-bits) (sym (row-three 1 _ _ _))
