-- `check_points::notes::geometry_error` meets its contract: by its code. Assumes nothing.
use native.Mathlib.Omega.{arith}
use mathlib.Core.Path.{sym, ap, ◌∙◌}
use Rattle.meaning.specs.Faults.{about}
use Rattle.check_reasons.specs.Log.{class_at}
use Rattle.check_reasons.specs.Laws.{enough-same, noted-same}
use Rattle.check_points.specs.Points.{code_findings}
use Rattle.check_points.specs.NoteLaws.{error-coded, error-few}
use Rattle.check_points.proofs.notes.geometry_error.Goals as goal

pub log_code-requires : goal.log_code-requires
log_code-requires c =
    let s = c in
    let a = about (class_at s.args.asked) s.args.id in
    let e = c.error_code.ensures in
    record { code_bound = (omega (arith, e, error-few s.args.n), s.requires.n_nonzero.1); enough = enough-same (error-coded a s.args.n s.requires.n_nonzero.0 ∙ ap (λ k. code_findings k a) (sym e)) s.requires.enough }

pub returns : goal.returns
returns c =
    let s = c in
    let a = about (class_at s.args.asked) s.args.id in
    noted-same (sym (error-coded a s.args.n s.requires.n_nonzero.0 ∙ ap (λ k. code_findings k a) (sym c.error_code.ensures))) c.log_code.ensures
