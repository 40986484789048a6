-- `split_bounds::bounds_refusal` meets its contract. Assumes nothing.
use Rattle.split_segment.specs.Laws.{refuses}
use Rattle.split_bounds.specs.Laws.{bounds-tests}
use borrow.Author.Rules.{rules}
use Rattle.split_bounds.proofs.bounds_refusal.Goals as goal

pub returns-then-n-ne0 : goal.returns-then-n-ne0
returns-then-n-ne0 c =
    let s = c in
    rw (← bounds-tests _ s.args.edge, ← c.ends_refusal-n.ensures) (refuses _ _ c.if-n-ne0.true)

pub returns : goal.returns
returns c =
    let s = c in
    rw (← bounds-tests _ s.args.edge, ← c.ends_refusal-n.ensures, c.if-n-ne0.false, c.span_refusal.ensures, c.segment_at.ensures)
