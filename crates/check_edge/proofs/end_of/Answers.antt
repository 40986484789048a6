-- `check_edge::end_of` meets its contract: by the end's case. Assumes nothing.
use mathlib.Core.Path.{sym}
use Rattle.check_reasons.specs.Laws.{enough-same, noted-none, noted-same}
use Rattle.check_ends.specs.Laws.{no_end, one_end}
use borrow.Author.Rules.{rules}
use Rattle.check_edge.proofs.end_of.Goals as goal

pub end_test-requires : goal.end_test-requires
end_test-requires c = record { sized = c.requires.sized; enough = enough-same (one_end _ _ _ c.in-Some.is) c.requires.enough }

pub returns-in-None : goal.returns-in-None
returns-in-None c = noted-same (sym (no_end _ _ c.in-None.is)) (noted-none _ _)

pub returns-in-Some : goal.returns-in-Some
returns-in-Some c = noted-same (sym (one_end _ _ _ c.in-Some.is)) c.end_test.ensures
