-- `check_points::point_on_surface` meets its contract: by the code of the distance. Assumes nothing.
use native.Mathlib.Omega.{arith}
use mathlib.Core.Path.{sym, ap, ◌∙◌}
use Rattle.meaning.specs.Faults.{about}
use Rattle.check_reasons.specs.Log.{class_at}
use Rattle.check_reasons.specs.Laws.{enough-same, noted-same}
use Rattle.check_points.specs.Points.{code_findings}
use Rattle.check_points.specs.Laws.{surface-coded, surface-few}
use Rattle.check_points.proofs.point_on_surface.Goals as goal

pub log_code-requires : goal.log_code-requires
log_code-requires c =
    let s = c in
    let a = about (class_at s.args.asked) s.args.id in
    let r = c.distance_to_surface in
    let e = c.surface_code-code.ensures in
    record { code_bound = (omega (arith, e, surface-few r.result s.args.tolerance s.args.n s.requires.n_nonzero.1), s.requires.n_nonzero.2); enough = enough-same (surface-coded s.args.surface s.args.p s.args.tolerance s.args.n a _ r.ensures s.requires.n_nonzero.0 s.requires.n_nonzero.1 ∙ ap (λ k. code_findings k a) (sym e)) s.requires.enough }

pub returns : goal.returns
returns c =
    let s = c in
    let a = about (class_at s.args.asked) s.args.id in
    let r = c.distance_to_surface in
    noted-same (sym (surface-coded s.args.surface s.args.p s.args.tolerance s.args.n a _ r.ensures s.requires.n_nonzero.0 s.requires.n_nonzero.1 ∙ ap (λ k. code_findings k a) (sym c.surface_code-code.ensures))) c.log_code.ensures
