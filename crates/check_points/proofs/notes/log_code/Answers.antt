-- `check_points::notes::log_code` meets its contract: by the code. Assumes nothing.
use native.Mathlib.Omega.{arith}
use mathlib.Core.Path.{sym}
use Rattle.meaning.specs.Faults.{about}
use Rattle.check_reasons.specs.Log.{class_at}
use Rattle.check_reasons.specs.Laws.{enough-same, noted-none, noted-same}
use Rattle.check_points.specs.NoteLaws.{code-none, code-skipped, code-noted}
use Rattle.check_points.proofs.notes.log_code.Goals as goal

pub returns-then-code-eq0 : goal.returns-then-code-eq0
returns-then-code-eq0 c = let s = c in noted-same (sym (code-none s.args.code (about (class_at s.args.asked) s.args.id) c.if-code-eq0.true)) (noted-none _ _)

pub skip-requires : goal.skip-requires
skip-requires c = let s = c in enough-same (code-skipped s.args.code (about (class_at s.args.asked) s.args.id) c.if-code-eq-NOT_MADE.true) s.requires.enough

pub returns-then-code-eq-NOT_MADE : goal.returns-then-code-eq-NOT_MADE
returns-then-code-eq-NOT_MADE c = let s = c in noted-same (sym (code-skipped s.args.code (about (class_at s.args.asked) s.args.id) c.if-code-eq-NOT_MADE.true)) (c.skip.ensures _)

pub note-requires : goal.note-requires
note-requires c =
    let s = c in
    record { n_nonzero = (omega (arith, c.if-code-eq0.false), omega (arith, s.requires.code_bound.0, c.if-code-eq-NOT_MADE.false), s.requires.code_bound.1); enough = enough-same (code-noted s.args.code (about (class_at s.args.asked) s.args.id) c.if-code-eq0.false c.if-code-eq-NOT_MADE.false) s.requires.enough }

pub returns : goal.returns
returns c =
    let s = c in
    noted-same (sym (code-noted s.args.code (about (class_at s.args.asked) s.args.id) c.if-code-eq0.false c.if-code-eq-NOT_MADE.false)) c.note.ensures
