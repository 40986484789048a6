-- `inquire_box::extent::extent_box` meets its contract. Assumes nothing.
use borrow.Author.Tests.{not-true, not-false}
use Rattle.inquire_box.specs.Laws.{box-empty, box-infinite, box-given}
use Rattle.inquire_box.proofs.extent.extent_box.Goals as goal

pub returns-then-e : goal.returns-then-e
returns-then-e c = box-empty c.args.e c.if-e.true

pub returns-then-not-e : goal.returns-then-not-e
returns-then-not-e c = box-infinite c.args.e c.if-e.false (not-true c.args.e.finite c.if-not-e.true)

pub returns : goal.returns
returns c = box-given c.args.e c.if-e.false (not-false c.args.e.finite c.if-not-e.false)
