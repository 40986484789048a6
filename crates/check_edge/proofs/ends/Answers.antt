-- `check_edge::ends` meets its contract: one end after the other. Assumes nothing.
use Rattle.check_edge.specs.Edge.{ends_findings}
use Rattle.check_reasons.specs.Laws.{enough-first, enough-then, noted-then}
use borrow.Author.Rules.{rules}
use Rattle.check_edge.proofs.ends.Goals as goal

pub end_of-a-requires : goal.end_of-a-requires
unfolding ends_findings
end_of-a-requires c = record { sized = c.requires.sized; enough = enough-first _ _ _ c.requires.enough }

pub end_of-requires : goal.end_of-requires
unfolding ends_findings
end_of-requires c = record { sized = c.requires.sized; enough = enough-then c.requires.enough c.end_of-a.ensures }

pub returns : goal.returns
unfolding ends_findings
returns c = noted-then c.end_of-a.ensures c.end_of.ensures
