-- `walk_sources::put_end` meets its contract. Assumes nothing.
use Rattle.walk_sources.specs.Laws.{end_none, end-some}
use Rattle.walk_sources.proofs.put_end.Goals as goal

pub returns-then-tag-eq0 : goal.returns-then-tag-eq0
returns-then-tag-eq0 c = end_none _ _ _ _ c.if-tag-eq0.true

pub returns : goal.returns
returns c = end-some _ _ _ _ _ c.if-tag-eq0.false c.put.ensures
