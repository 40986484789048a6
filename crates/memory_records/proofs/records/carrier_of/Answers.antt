-- `memory_records::records::carrier_of` meets its contract. Assumes nothing.
use borrow.Author.Tests.{eq-eqb, ne_eqb}
use borrow.Author.Rules.{rules}
use Rattle.memory_records.proofs.records.carrier_of.Goals as goal

pub returns-then-w-eq0 : goal.returns-then-w-eq0
returns-then-w-eq0 c = rw (eq-eqb _ _ c.if-w-eq0.true, c.point_of.ensures, c.vec_of.ensures)

pub returns-then-w-eq1 : goal.returns-then-w-eq1
returns-then-w-eq1 c = rw (ne_eqb _ _ c.if-w-eq0.false, eq-eqb _ _ c.if-w-eq1.true, c.point_of-then-w-eq1.ensures, c.vec_of-then-w-eq1.ensures)

pub returns : goal.returns
returns c = rw (ne_eqb _ _ c.if-w-eq0.false, ne_eqb _ _ c.if-w-eq1.false)
