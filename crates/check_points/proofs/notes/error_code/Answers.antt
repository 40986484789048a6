-- `check_points::notes::error_code` meets its contract. Assumes nothing.
use borrow.Author.Tests.{eq-eqb, ne_eqb}
use Rattle.check_points.proofs.notes.error_code.Goals as goal

pub returns-then-n-eq7 : goal.returns-then-n-eq7
returns-then-n-eq7 c = rw (eq-eqb _ _ c.if-n-eq7.true)

pub returns-then-n-eq2 : goal.returns-then-n-eq2
returns-then-n-eq2 c = rw (ne_eqb _ _ c.if-n-eq7.false, eq-eqb _ _ c.if-n-eq2.true)

pub returns : goal.returns
returns c = rw (ne_eqb _ _ c.if-n-eq7.false, ne_eqb _ _ c.if-n-eq2.false)
