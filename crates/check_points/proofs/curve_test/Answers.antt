-- `check_points::curve_test` meets its contract: by the arm of the query. Assumes nothing.
use Rattle.check_points.specs.Laws.{curve-refused, curve-given}
use Rattle.check_reasons.specs.Laws.{enough-same, noted-same}
use Rattle.meaning.specs.Faults.{off_curve}
use native.Mathlib.Omega.{arith}
use mathlib.Core.Path.{sym, ap, ◌∙◌}
use Rattle.check_points.proofs.curve_test.Goals as goal

pub geometry_error-requires : goal.geometry_error-requires
geometry_error-requires c = let s = c in let w = curve-refused s.args.curve s.args.p s.args.vertex s.args.edge s.args.e s.args.v _ c.project_to_curve.ensures _ _ c.in-Err.is c.number.ensures in record { n_nonzero = (w.0, omega arith); enough = enough-same w.1 s.requires }

pub note_off_curve-requires : goal.note_off_curve-requires
note_off_curve-requires c = let s = c in enough-same (curve-given s.args.curve s.args.p s.args.vertex s.args.edge s.args.e s.args.v _ c.project_to_curve.ensures _ c.in-Ok.is ∙ ap (λ x. off_curve x s.args.v) (sym c.off_curve.ensures)) s.requires

pub returns-in-Err : goal.returns-in-Err
returns-in-Err c = let s = c in let w = curve-refused s.args.curve s.args.p s.args.vertex s.args.edge s.args.e s.args.v _ c.project_to_curve.ensures _ _ c.in-Err.is c.number.ensures in noted-same (sym w.1) c.geometry_error.ensures

pub returns-in-Ok : goal.returns-in-Ok
returns-in-Ok c = let s = c in noted-same (sym (curve-given s.args.curve s.args.p s.args.vertex s.args.edge s.args.e s.args.v _ c.project_to_curve.ensures _ c.in-Ok.is ∙ ap (λ x. off_curve x s.args.v) (sym c.off_curve.ensures))) c.note_off_curve.ensures
