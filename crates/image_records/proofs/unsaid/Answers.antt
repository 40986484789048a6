-- `image_records::unsaid` meets its contract. Assumes nothing.
use native.Mathlib.Omega.{arith}
use borrow.Author.Tests.{eq-eqb, ne_eqb}
use Rattle.memory_layout.specs.Layout.{word}
use Rattle.image_records.specs.Kept.{tag_places, quiet_tags, unsaid}
use Rattle.image_records.specs.Laws.{tag-there}
use Rattle.image_records.proofs.unsaid.Goals as goal

pub offset_bounds-w-k : goal.offset_bounds-w-k
offset_bounds-w-k c = let a = tag-there c.args.k c.requires.table in record { fits = omega arith }

pub bounds-w-k : goal.bounds-w-k
bounds-w-k c = let a = tag-there c.args.k c.requires.table in omega arith

pub returns-then-w-k : goal.returns-then-w-k
unfolding unsaid
returns-then-w-k c =
    let s = c in
    let e = ne_eqb (word s.args.w.now (word tag_places s.args.k)) (word quiet_tags s.args.k) c.if-w-k.true in
    rw e

pub returns : goal.returns
unfolding unsaid
returns c =
    let s = c in
    let e = eq-eqb (word s.args.w.now (word tag_places s.args.k)) (word quiet_tags s.args.k) c.if-w-k.false in
    rw e
