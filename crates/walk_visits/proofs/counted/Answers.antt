-- `walk_visits::counted` meets its contract. Assumes nothing.
use Rattle.walk_visits.proofs.counted.Goals as goal

pub returns-else-seen : goal.returns-else-seen
returns-else-seen c = rw c.if-seen.false
