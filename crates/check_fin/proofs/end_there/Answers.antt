-- `check_fin::end_there` meets its contract: by the end's case. Assumes nothing.
use mathlib.Core.Path.{sym}
use Rattle.check_reasons.specs.Laws.{enough-same, noted-none, noted-same}
use Rattle.check_ends.specs.Laws.{no_end, one_end}
use borrow.Author.Rules.{rules}
use Rattle.check_fin.proofs.end_there.Goals as goal

pub note_if-requires : goal.note_if-requires
note_if-requires c = record { n_nonzero = search rules; enough = enough-same (one_end _ _ _ c.in-Some.is) c.requires }

pub returns-in-None : goal.returns-in-None
returns-in-None c = noted-same (sym (no_end _ _ c.in-None.is)) (noted-none _ _)

pub returns-in-Some : goal.returns-in-Some
returns-in-Some c = noted-same (sym (one_end _ _ _ c.in-Some.is)) c.note_if.ensures
