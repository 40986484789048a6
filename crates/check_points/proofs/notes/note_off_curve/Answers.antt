-- `check_points::notes::note_off_curve` meets its contract: sign by sign. Assumes nothing.
use Rattle.check_reasons.specs.Laws.{enough-same, noted-none, noted-same}
use Rattle.meaning.specs.Faults.{off_curve}
use mathlib.Core.Path.{sym, ap}
use borrow.Author.Rules.{rules}
use Rattle.check_points.proofs.notes.note_off_curve.Goals as goal

pub note-requires : goal.note-requires
note-requires c = record { n_nonzero = search rules; enough = enough-same (ap (λ x. off_curve x c.args.v) c.in-Positive.is) c.requires }

pub skip-requires : goal.skip-requires
skip-requires c = enough-same (ap (λ x. off_curve x c.args.v) c.in-Unresolved.is) c.requires

pub returns-in-Negative : goal.returns-in-Negative
returns-in-Negative c = noted-same (sym (ap (λ x. off_curve x c.args.v) c.in-Negative.is)) (noted-none _ _)

pub returns-in-Zero : goal.returns-in-Zero
returns-in-Zero c = noted-same (sym (ap (λ x. off_curve x c.args.v) c.in-Zero.is)) (noted-none _ _)

pub returns-in-Positive : goal.returns-in-Positive
returns-in-Positive c = noted-same (sym (ap (λ x. off_curve x c.args.v) c.in-Positive.is)) c.note.ensures

pub returns-in-Unresolved : goal.returns-in-Unresolved
returns-in-Unresolved c = noted-same (sym (ap (λ x. off_curve x c.args.v) c.in-Unresolved.is)) (c.skip.ensures _)
