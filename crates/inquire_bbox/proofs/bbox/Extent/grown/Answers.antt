-- `bbox::Extent::grown` meets its contract: which way the test went. Assumes nothing.
use borrow.Author.Rules.{rules}
use Rattle.inquire_bbox.proofs.bbox.Extent.grown.Goals as goal

pub returns-then-self : goal.returns-then-self
returns-then-self c = rw c.if-self.true

pub returns : goal.returns
returns c = rw c.if-self.false c.including.ensures
