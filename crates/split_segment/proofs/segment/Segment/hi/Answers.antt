-- `split_segment::segment::Segment::hi` meets its contract. Assumes nothing.
use Rattle.split_segment.specs.Segment.{high}
use borrow.Author.Rules.{rules}
use Rattle.split_segment.proofs.segment.Segment.hi.Goals as goal

pub returns : goal.returns
unfolding high
returns c = c.closest_param.ensures
