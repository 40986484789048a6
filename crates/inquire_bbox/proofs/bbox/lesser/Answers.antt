-- `bbox::lesser` meets its contract: which way the test went. Assumes nothing.
use Rattle.inquire_bbox.proofs.bbox.lesser.Goals as goal

pub returns-then-b-a : goal.returns-then-b-a
returns-then-b-a c = rw c.if-b-a.true

pub returns : goal.returns
returns c = rw c.if-b-a.false
