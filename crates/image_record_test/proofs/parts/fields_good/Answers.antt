-- `image_record_test::parts::fields_good` meets its contract. Assumes nothing.
use native.Mathlib.Omega.{arith}
use Rattle.image_record_test.specs.Facts.{carrier-tested}
use Rattle.image_record_test.specs.Parts.{fields_good}
use borrow.Author.Rules.{rules}
use Rattle.image_record_test.proofs.parts.fields_good.Goals as goal

pub fin_good-requires : goal.fin_good-requires
fin_good-requires c = rw c.in-5.is at c.requires.k_in_bounds

pub edge_good-requires : goal.edge_good-requires
edge_good-requires c = rw c.in-6.is at c.requires.k_in_bounds

pub vertex_good-requires : goal.vertex_good-requires
vertex_good-requires c = rw c.in-7.is at c.requires.k_in_bounds

pub carrier_good-requires : goal.carrier_good-requires
carrier_good-requires c =
    let s = c in
    rw (carrier-tested s.args.k s.args.p.now (omega arith) s.requires.k_bound).1 at s.requires.k_in_bounds

pub returns-in-5 : goal.returns-in-5
unfolding fields_good
returns-in-5 c = rw c.in-5.is c.fin_good.ensures

pub returns-in-6 : goal.returns-in-6
unfolding fields_good
returns-in-6 c = rw c.in-6.is c.edge_good.ensures

pub returns-in-7 : goal.returns-in-7
unfolding fields_good
returns-in-7 c = rw c.in-7.is c.vertex_good.ensures

pub returns-in_default : goal.returns-in_default
returns-in_default c =
    let s = c in
    rw (carrier-tested s.args.k s.args.p.now (omega arith) s.requires.k_bound).0 c.carrier_good.ensures
