-- `split_stop_edge::parts::carrier_stop` meets its contract. Assumes nothing.
use Rattle.split_stop_edge.specs.EdgeRows.{carried_told}
use Rattle.memory_records.specs.Laws.{counts-there}
use Rattle.split_stop_edge.proofs.parts.carrier_stop.Goals as goal

pub vertices_stop-requires : goal.vertices_stop-requires
vertices_stop-requires c = let s = c in record { in_bounds = counts-there s.args.room.now s.args.words.now s.args.reals.now s.requires.sized; w_len = s.requires.w_len }

pub returns : goal.returns
unfolding carried_told
returns c = rw (c.first-2.ensures, c.first.ensures, c.vertices_stop.ensures, c.curve_stop-curve.ensures, c.ends_stop-ends.ensures)
