-- `split_segment::refusals::then` meets its contract. Assumes nothing.
use Rattle.split_segment.specs.Laws.{refuses}
use borrow.Author.Rules.{rules}
use Rattle.split_segment.proofs.refusals.then.Goals as goal

pub returns-then-a-ne0 : goal.returns-then-a-ne0
returns-then-a-ne0 c = refuses _ _ c.if-a-ne0.true
