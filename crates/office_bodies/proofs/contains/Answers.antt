-- `office_bodies::contains` meets its contract. Assumes nothing.
use mathlib.Core.Path.{◌∙◌}
use borrow.Author.Rules.{rules}
use Rattle.office_bodies.specs.Laws.{contains-there, contains-above}
use Rattle.office_bodies.proofs.contains.Goals as goal

pub returns-then-office-gt1 : goal.returns-then-office-gt1
returns-then-office-gt1 c =
    let s = c in
    contains-above s.args.room.now s.args.words.now s.args.reals.now s.args.office c.unknown_tag.result c.if-office-gt1.true c.unknown_tag.ensures s.args.entity

pub returns : goal.returns
returns c =
    let s = c in
    c.contains.ensures ∙ contains-there s.args.room.now s.args.words.now s.args.reals.now s.args.office c.if-office-gt1.false s.args.entity _ (c.entity_for.ensures s.args.room.now s.args.reals.now)
