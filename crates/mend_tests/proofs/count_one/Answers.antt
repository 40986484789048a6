-- `mend_tests::count_one` meets its contract. Assumes nothing.
use mathlib.Core.Path.{sym, ap}
use lib.ListN.{set}
use lib.Seq.{set_out}
use Rattle.mend_tests.proofs.count_one.Goals as goal

pub returns-then-i-counts : goal.returns-then-i-counts
returns-then-i-counts c = ap (set c.args.counts.now c.args.i) c.more.ensures

pub returns-else-i-counts : goal.returns-else-i-counts
returns-else-i-counts c = sym (set_out _ _ _ c.if-i-counts.false)
