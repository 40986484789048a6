-- `memory_records::records::version_of` meets its contract. Assumes nothing.
use borrow.Author.Tests.{eq-eqb, ne_eqb}
use Rattle.memory_records.proofs.records.version_of.Goals as goal

pub returns-then-n-eq2 : goal.returns-then-n-eq2
returns-then-n-eq2 c = rw (eq-eqb _ _ c.if-n-eq2.true)

pub returns : goal.returns
returns c = rw (ne_eqb _ _ c.if-n-eq2.false)
