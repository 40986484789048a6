-- `check_points::sample_test` meets its contract: by the arm of the query. Assumes nothing.
use Rattle.check_points.specs.Laws.{sample-refused, sample-given}
use Rattle.check_reasons.specs.Laws.{enough-same, noted-same}
use native.Mathlib.Omega.{arith}
use mathlib.Core.Path.{sym}
use borrow.Author.Rules.{rules}
use Rattle.check_points.proofs.sample_test.Goals as goal

pub geometry_error-requires : goal.geometry_error-requires
geometry_error-requires c = let s = c in let w = sample-refused s.args.curve s.args.surface s.args.tolerance s.args.e s.args.at _ c.eval_curve.ensures _ _ c.in-Err.is c.number.ensures in record { n_nonzero = (w.0, omega arith); enough = enough-same w.1 s.requires }

pub point_on_surface-requires : goal.point_on_surface-requires
point_on_surface-requires c = let s = c in record { n_nonzero = search rules; enough = enough-same (sample-given s.args.curve s.args.surface s.args.tolerance s.args.e s.args.at _ c.eval_curve.ensures _ c.in-Ok.is) s.requires }

pub returns-in-Err : goal.returns-in-Err
returns-in-Err c = let s = c in let w = sample-refused s.args.curve s.args.surface s.args.tolerance s.args.e s.args.at _ c.eval_curve.ensures _ _ c.in-Err.is c.number.ensures in noted-same (sym w.1) c.geometry_error.ensures

pub returns-in-Ok : goal.returns-in-Ok
returns-in-Ok c = let s = c in noted-same (sym (sample-given s.args.curve s.args.surface s.args.tolerance s.args.e s.args.at _ c.eval_curve.ensures _ c.in-Ok.is)) c.point_on_surface.ensures
