-- `mend_meetings::log` meets its contract. Assumes nothing.
use native.Mathlib.Omega.{arith}
use borrow.Author.Tests.{le-leb, lt-leb}
use Rattle.mend_meetings.specs.Laws.{logged_none, logged-one}
use borrow.Author.Rules.{rules}
use Rattle.mend_meetings.proofs.log.Goals as goal

pub returns-then-count-ge-FULL : goal.returns-then-count-ge-FULL
returns-then-count-ge-FULL c = λ s. logged_none _ _ s _ (le-leb _ _ c.if-count-ge-FULL.true)

pub overflow_add-result : goal.overflow_add-result
overflow_add-result c = omega (arith, c.if-count-ge-FULL.false)

pub returns : goal.returns
returns c = λ s. logged-one _ _ _ s _ (lt-leb _ _ c.if-count-ge-FULL.false) c.put_change.ensures
