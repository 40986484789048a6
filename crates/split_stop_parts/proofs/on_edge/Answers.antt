-- `split_stop_parts::on_edge` meets its contract. Assumes nothing.
use Rattle.split_stop_parts.proofs.on_edge.Goals as goal

pub returns : goal.returns
returns c = c.stop_at.ensures
