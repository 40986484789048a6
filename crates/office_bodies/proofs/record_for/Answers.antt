-- `office_bodies::record_for` meets its contract. Assumes nothing.
use borrow.Author.Rules.{rules}
use borrow.Author.Tests.{eq-eqb, ne_eqb}
use Rattle.office_bodies.proofs.record_for.Goals as goal

pub returns-then-j-eq-BODY_REGIONS : goal.returns-then-j-eq-BODY_REGIONS
returns-then-j-eq-BODY_REGIONS c room x =
    let s = c in
    let e = eq-eqb s.args.j 0 c.if-j-eq-BODY_REGIONS.true in
    rw e (c.body_for.ensures room x)

pub returns : goal.returns
returns c room x =
    let s = c in
    let e = ne_eqb s.args.j 0 c.if-j-eq-BODY_REGIONS.false in
    rw e
