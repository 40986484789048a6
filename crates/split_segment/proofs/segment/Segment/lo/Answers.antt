-- `split_segment::segment::Segment::lo` meets its contract. Assumes nothing.
use Rattle.split_segment.specs.Segment.{low}
use borrow.Author.Rules.{rules}
use Rattle.split_segment.proofs.segment.Segment.lo.Goals as goal

pub returns : goal.returns
unfolding low
returns c = c.closest_param.ensures
