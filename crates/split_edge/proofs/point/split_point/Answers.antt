use Rattle.split_place.specs.Place.{along, cut_of}
use Rattle.split_segment.specs.Segment.{segment_at, low, high}
use Rattle.meaning.specs.Split.{lo, hi, parameter, split_point}
use borrow.Author.Rules.{rules}
use Rattle.split_edge.proofs.point.split_point.Goals as goal

pub returns : goal.returns
unfolding split_point parameter lo hi segment_at low high along cut_of
returns c = rw (c.cut_of-cut.ensures, c.segment_at-segment.ensures)
