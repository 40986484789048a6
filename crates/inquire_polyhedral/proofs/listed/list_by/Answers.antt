-- `inquire_polyhedral::listed::list_by` meets its contract: which way the test went. Assumes nothing.
use native.Mathlib.Omega.{arith}
use mathlib.Core.Path.{refl}
use borrow.Author.Tests.{ne_eqb}
use Rattle.inquire_polyhedral.specs.Tested.{list_by}
use Rattle.inquire_polyhedral.proofs.listed.list_by.Goals as goal

pub returns-then-test-eq-WIRES : goal.returns-then-test-eq-WIRES
unfolding list_by
returns-then-test-eq-WIRES c = rw c.if-test-eq-WIRES.true (refl, omega arith, refl)

pub returns : goal.returns
unfolding list_by
returns c = rw (ne_eqb _ 3 c.if-test-eq-WIRES.false) (refl, omega arith, refl)
