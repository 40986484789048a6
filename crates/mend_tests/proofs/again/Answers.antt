-- `mend_tests::again` meets its contract. Assumes nothing.
use mathlib.Core.Path.{sym, ap}
use lib.Dec.{ltb}
use lib.ListN.{get_or-eq_default}
use Rattle.meaning.specs.Formed.{bit}
use Rattle.mend_tests.proofs.again.Goals as goal

pub returns-then-i-counts : goal.returns-then-i-counts
returns-then-i-counts c = c.bit.ensures

pub returns : goal.returns
returns c = sym (ap (λ n. bit (ltb 1 n)) (get_or-eq_default c.args.counts.now 0 c.if-i-counts.false))
