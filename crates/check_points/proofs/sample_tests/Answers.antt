-- `check_points::sample_tests` meets its contract: a turn of the loop is one sample more. Assumes nothing.
use Rattle.std.proofs.Common.{◌<◌, length, arith, sym, ap, take_all}
use Rattle.meaning.specs.Lists.{run, joined}
use Rattle.meaning_list_laws.specs.Lists.{length_run}
use Rattle.check_reasons.specs.Laws.{enough-same, noted-none, noted-same, enough-turn, noted-turn}
use Rattle.check_points.specs.Points.{samples, samples_findings}
use Rattle.check_points.specs.Laws.{sample-entry}
use Rattle.check_points.proofs.sample_tests.Goals as goal

pub loop-k-init : goal.loop-k-init
unfolding joined
loop-k-init c = noted-none _ _

pub sample_test-tally-requires : goal.sample_test-tally-requires
unfolding samples_findings
sample_test-tally-requires c = let s = c in let k = c.loop-k.k in let h : k < length (run 1 s.args.n) = rw length_run (omega arith) in enough-same (sym (sample-entry s.args.curve s.args.surface s.args.tolerance s.args.e s.args.t0 s.args.t1 s.args.n k _ (omega arith) c.sample_at-at.ensures)) (enough-turn (samples s.args.curve s.args.surface s.args.tolerance s.args.e s.args.t0 s.args.t1 s.args.n) (run 1 s.args.n) k h s.requires.enough c.loop-k.invariant)

pub loop-k-preserved : goal.loop-k-preserved
loop-k-preserved c = let s = c in let k = c.loop-k.k in let h : k < length (run 1 s.args.n) = rw length_run (omega arith) in noted-turn (samples s.args.curve s.args.surface s.args.tolerance s.args.e s.args.t0 s.args.t1 s.args.n) (run 1 s.args.n) k h c.loop-k.invariant (noted-same (sample-entry s.args.curve s.args.surface s.args.tolerance s.args.e s.args.t0 s.args.t1 s.args.n k _ (omega arith) c.sample_at-at.ensures) c.sample_test-tally.ensures)

pub returns : goal.returns
unfolding samples_findings
returns c = let s = c in noted-same (ap (joined (samples s.args.curve s.args.surface s.args.tolerance s.args.e s.args.t0 s.args.t1 s.args.n)) (take_all c.loop-k.k (run 1 s.args.n) (rw length_run (omega arith)))) c.loop-k.invariant
