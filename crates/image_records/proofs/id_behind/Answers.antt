-- `image_records::id_behind` meets its contract. Assumes nothing.
use native.Mathlib.Numerals.{add-one}
use borrow.Author.Tests.{eq-eqb, ne_eqb}
use Rattle.memory_layout.specs.Layout.{word}
use Rattle.image_records.specs.Kept.{id_behind}
use Rattle.image_records.proofs.id_behind.Goals as goal

pub returns-then-w-at-eq0 : goal.returns-then-w-at-eq0
unfolding id_behind
returns-then-w-at-eq0 c = let e = eq-eqb (word c.args.w.now c.args.at) 0 c.if-w-at-eq0.true in rw e

pub returns : goal.returns
unfolding id_behind
returns c =
    let s = c in
    let e = ne_eqb (word s.args.w.now s.args.at) 0 c.if-w-at-eq0.false in
    rw (e, add-one)
