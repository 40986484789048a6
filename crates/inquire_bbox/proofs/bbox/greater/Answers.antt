-- `bbox::greater` meets its contract: which way the test went. Assumes nothing.
use Rattle.inquire_bbox.proofs.bbox.greater.Goals as goal

pub returns-then-a-b : goal.returns-then-a-b
returns-then-a-b c = rw c.if-a-b.true

pub returns : goal.returns
returns c = rw c.if-a-b.false
