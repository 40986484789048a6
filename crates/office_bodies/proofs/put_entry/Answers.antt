-- `office_bodies::put_entry` meets its contract. Assumes nothing.
use mathlib.Core.Path.{◌∙◌}
use borrow.Author.Rules.{rules}
use Rattle.office_bodies.specs.Laws.{put-there, put-above}
use Rattle.office_bodies.proofs.put_entry.Goals as goal

pub returns-then-office-gt1 : goal.returns-then-office-gt1
returns-then-office-gt1 c =
    let s = c in
    let both = put-above s.args.room.now s.args.words.now s.args.reals.now s.args.office c.unknown_tag.result c.if-office-gt1.true c.unknown_tag.ensures s.args.j s.args.i s.args.place s.args.id in record { answer = both.0; tables = both.1 }

pub returns : goal.returns
returns c =
    let s = c in
    let t = put-there s.args.room.now s.args.words.now s.args.reals.now s.args.office c.if-office-gt1.false s.args.j s.args.i _ (c.record_for-seen.ensures s.args.room.now s.args.reals.now) s.args.place s.args.id in
    record { answer = c.put_entry.ensures.answer ∙ t.0; tables = c.put_entry.ensures.tables ∙ t.1 }
