-- `office_bodies::list_entry` meets its contract. Assumes nothing.
use mathlib.Core.Path.{◌∙◌}
use borrow.Author.Rules.{rules}
use Rattle.office_bodies.specs.Laws.{entry-there, entry-above}
use Rattle.office_bodies.proofs.list_entry.Goals as goal

pub returns-then-office-gt1 : goal.returns-then-office-gt1
returns-then-office-gt1 c =
    let s = c in
    entry-above s.args.room.now s.args.words.now s.args.reals.now s.args.office c.unknown_tag.result c.if-office-gt1.true c.unknown_tag.ensures s.args.j s.args.i s.args.place

pub returns : goal.returns
returns c =
    let s = c in
    c.list_entry.ensures ∙ entry-there s.args.room.now s.args.words.now s.args.reals.now s.args.office c.if-office-gt1.false s.args.j s.args.i _ (c.record_for.ensures s.args.room.now s.args.reals.now) s.args.place
