-- `split_stop_parts::stop_at` meets its contract. Assumes nothing.
use Rattle.split_stop_parts.specs.Laws.{tells_none, tells-here}
use Rattle.split_stop_parts.proofs.stop_at.Goals as goal

pub returns-then-number-eq0 : goal.returns-then-number-eq0
returns-then-number-eq0 c = tells_none _ _ _ _ _ _ _ c.if-number-eq0.true

pub returns : goal.returns
returns c = tells-here _ _ _ _ _ _ _ c.if-number-eq0.false
