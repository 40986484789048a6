-- `image_records::body_mark` meets its contract. Assumes nothing.
use borrow.Author.Tests.{eq-eqb, ne_eqb}
use Rattle.memory_layout.specs.Layout.{word}
use Rattle.image_records.proofs.body_mark.Goals as goal

pub returns-then-w-eq0 : goal.returns-then-w-eq0
returns-then-w-eq0 c = let s = c in rw (eq-eqb (word s.args.w.now 1) 0 c.if-w-eq0.true)

pub returns : goal.returns
returns c = let s = c in rw (ne_eqb (word s.args.w.now 1) 0 c.if-w-eq0.false)
