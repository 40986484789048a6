-- `check_reasons::note_if` meets its contract. Assumes nothing.
use Rattle.check_reasons.specs.Laws.{only-true, only-false, enough-same, noted-same, noted-none}
use mathlib.Core.Path.{sym}
use borrow.Author.Rules.{rules}
use Rattle.check_reasons.proofs.note_if.Goals as goal

pub note-requires : goal.note-requires
note-requires c = record { n_nonzero = c.requires.n_nonzero; enough = enough-same (only-true _ _ c.if-test.true) c.requires.enough }

pub returns-then-test : goal.returns-then-test
returns-then-test c = noted-same (sym (only-true _ _ c.if-test.true)) c.note.ensures

pub returns : goal.returns
returns c = noted-same (sym (only-false _ _ c.if-test.false)) (noted-none _ _)
