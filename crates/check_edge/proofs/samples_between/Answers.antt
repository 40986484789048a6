-- `check_edge::samples_between` meets its contract: by the cases of both parameters. Assumes nothing.
use mathlib.Core.Path.{sym}
use Rattle.check_reasons.specs.Laws.{enough-same, noted-none, noted-same}
use Rattle.check_edge.specs.Laws.{between_none, between-one, between-both}
use borrow.Author.Rules.{rules}
use Rattle.check_edge.proofs.samples_between.Goals as goal

pub sample_tests-requires : goal.sample_tests-requires
sample_tests-requires c = record { n_bound = c.requires.n_bound; enough = enough-same (between-both c.args.curve c.args.surface c.args.tol c.args.n c.args.e c.args.start c.args.end _ _ c.in-Some.is c.in-Some-end.is) c.requires.enough }

pub returns-in-None : goal.returns-in-None
returns-in-None c = noted-same (sym (between_none c.args.curve c.args.surface c.args.tol c.args.n c.args.e c.args.start c.args.end c.in-None.is)) (noted-none _ _)

pub returns-in-None-end : goal.returns-in-None-end
returns-in-None-end c = noted-same (sym (between-one c.args.curve c.args.surface c.args.tol c.args.n c.args.e c.args.start c.args.end _ c.in-Some.is c.in-None-end.is)) (noted-none _ _)

pub returns-in-Some-end : goal.returns-in-Some-end
returns-in-Some-end c = noted-same (sym (between-both c.args.curve c.args.surface c.args.tol c.args.n c.args.e c.args.start c.args.end _ _ c.in-Some.is c.in-Some-end.is)) c.sample_tests.ensures
