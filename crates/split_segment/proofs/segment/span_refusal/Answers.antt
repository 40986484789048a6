-- `split_segment::segment::span_refusal` meets its contract. Assumes nothing.
use Rattle.split_segment.specs.Segment.{span_refusal}
use borrow.Author.Rules.{rules}
use Rattle.split_segment.proofs.segment.span_refusal.Goals as goal

pub returns : goal.returns
unfolding span_refusal
returns c =
    rw (c.then.ensures, c.unless-2.ensures, c.unless.ensures, c.is_positive.ensures, c.span.ensures, c.is_finite-2.ensures, c.is_finite.ensures, c.is_positive-increases.ensures, c.increasing.ensures, c.hi-hi.ensures, c.lo-lo.ensures)
