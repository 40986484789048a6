-- `check_edge::rim` meets its contract: one step after the other. Assumes nothing.
use Rattle.check_reasons.specs.Laws.{enough-first, enough-then, noted-then}
use Rattle.check_edge.specs.Edge.{rim_findings}
use borrow.Author.Rules.{rules}
use Rattle.check_edge.proofs.rim.Goals as goal

pub ends-a-requires : goal.ends-a-requires
unfolding rim_findings
ends-a-requires c = record { sized = c.requires.sized; enough = enough-first _ _ _ (enough-first _ _ _ c.requires.enough) }

pub samples-b-requires : goal.samples-b-requires
unfolding rim_findings
samples-b-requires c = record { sized = c.requires.sized; n_bound = c.requires.n_bound; enough = enough-then (enough-first _ _ _ c.requires.enough) c.ends-a.ensures }

pub ring-requires : goal.ring-requires
unfolding rim_findings
ring-requires c = enough-then c.requires.enough (noted-then c.ends-a.ensures c.samples-b.ensures)

pub returns : goal.returns
unfolding rim_findings
returns c = noted-then (noted-then c.ends-a.ensures c.samples-b.ensures) (c.ring.ensures _)
