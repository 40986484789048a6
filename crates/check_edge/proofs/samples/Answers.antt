-- `check_edge::samples` meets its contract: by both parameters. Assumes nothing.
use mathlib.Core.Path.{sym, ◌∙◌}
use Rattle.memory_layout.specs.Decode.{decode}
use Rattle.check_reasons.specs.Laws.{enough-same, noted-same, noted-over}
use Rattle.check_ends.specs.Ends.{ref_of}
use Rattle.check_edge.specs.Laws.{samples-told}
use borrow.Author.Rules.{rules}
use Rattle.check_edge.proofs.samples.Goals as goal

pub returns-then-done : goal.returns-then-done
returns-then-done c = noted-over _ _ _ (sym c.done.ensures ∙ c.if-done.true)

pub samples_between-requires : goal.samples_between-requires
samples_between-requires c = record { n_bound = c.requires.n_bound; enough = enough-same (samples-told (decode c.args.room.now c.args.words.now c.args.reals.now) c.args.curve c.args.surface c.args.tol c.args.n c.args.e (ref_of c.args.edge.start) (ref_of c.args.edge.end) _ _ c.parameter-t0.ensures c.parameter-t1.ensures) c.requires.enough }

pub returns : goal.returns
returns c = noted-same (sym (samples-told (decode c.args.room.now c.args.words.now c.args.reals.now) c.args.curve c.args.surface c.args.tol c.args.n c.args.e (ref_of c.args.edge.start) (ref_of c.args.edge.end) _ _ c.parameter-t0.ensures c.parameter-t1.ensures)) c.samples_between.ensures
