-- `check_refusals::kept_of` meets its contract. Assumes nothing.
use borrow.Author.Tests.{le-ltb, lt-ltb}
use Rattle.check_refusals.proofs.kept_of.Goals as goal

pub returns-then-faults-space : goal.returns-then-faults-space
returns-then-faults-space c = rw (lt-ltb _ _ c.if-faults-space.true)

pub returns : goal.returns
returns c = rw (le-ltb _ _ c.if-faults-space.false)
