-- `split_stop_parts::of_edge` meets its contract. Assumes nothing.
use Rattle.split_stop_parts.proofs.of_edge.Goals as goal

pub returns : goal.returns
returns c = c.stop_at.ensures
