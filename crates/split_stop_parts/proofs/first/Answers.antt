-- `split_stop_parts::first` meets its contract. Assumes nothing.
use Rattle.split_stop_parts.specs.Laws.{stops-here, goes_on}
use Rattle.split_stop_parts.proofs.first.Goals as goal

pub returns-then-a-ne0 : goal.returns-then-a-ne0
returns-then-a-ne0 c = stops-here _ _ c.if-a-ne0.true

pub returns : goal.returns
returns c = goes_on _ _ c.if-a-ne0.false
