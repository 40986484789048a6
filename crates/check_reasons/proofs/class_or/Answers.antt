-- `check_reasons::class_or` meets its contract. Assumes nothing.
use borrow.Author.Tests.{ne_eqb}
use Rattle.check_reasons.proofs.class_or.Goals as goal

pub returns-then-class-eq-ASKED : goal.returns-then-class-eq-ASKED
returns-then-class-eq-ASKED c = rw c.if-class-eq-ASKED.true

pub returns : goal.returns
returns c = rw (ne_eqb _ _ c.if-class-eq-ASKED.false)
