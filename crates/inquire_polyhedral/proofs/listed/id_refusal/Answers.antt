-- `inquire_polyhedral::listed::id_refusal` meets its contract: which test it is. Assumes nothing.
use borrow.Author.Tests.{ne_eqb}
use Rattle.inquire_polyhedral.specs.Tested.{tested}
use Rattle.inquire_polyhedral.proofs.listed.id_refusal.Goals as goal

pub returns-then-test-eq-FLAT : goal.returns-then-test-eq-FLAT
unfolding tested
returns-then-test-eq-FLAT c = rw c.if-test-eq-FLAT.true c.flat_face.ensures

pub returns-then-test-eq-THERE : goal.returns-then-test-eq-THERE
unfolding tested
returns-then-test-eq-THERE c = rw c.if-test-eq-THERE.true c.face_there.ensures

pub returns-then-test-eq-STRAIGHT : goal.returns-then-test-eq-STRAIGHT
unfolding tested
returns-then-test-eq-STRAIGHT c = rw c.if-test-eq-STRAIGHT.true c.straight_face.ensures

pub returns : goal.returns
unfolding tested
returns c = rw (ne_eqb _ 0 c.if-test-eq-FLAT.false, ne_eqb _ 1 c.if-test-eq-THERE.false, ne_eqb _ 2 c.if-test-eq-STRAIGHT.false) c.straight_edge.ensures
