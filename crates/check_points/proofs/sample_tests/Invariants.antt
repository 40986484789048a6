-- `check_points::sample_tests` meets its contract: a turn of the loop is one sample more. Assumes nothing.
use Rattle.std.proofs.Common.{take}
use Rattle.meaning.specs.Lists.{run, joined}
use Rattle.check_reasons.specs.Log.{Noted}
use Rattle.check_points.specs.Points.{samples}
use Rattle.check_points.proofs.sample_tests.Given as goal

abbrev pub invariant-loop-k : goal.invariant-loop-k
invariant-loop-k l = Noted (joined (samples l.curve l.surface l.tolerance l.e l.t0 l.t1 l.n) (take l.k (run 1 l.n))) l.initial.nums l.initial.tally l.nums l.tally
