-- `office_measures::body_volume` meets its contract. Assumes nothing.
use mathlib.Core.Path.{◌∙◌}
use borrow.Author.Rules.{rules}
use Rattle.office_measures.specs.Laws.{volume-there, volume-above}
use Rattle.office_measures.proofs.body_volume.Goals as goal

pub returns-then-office-gt1 : goal.returns-then-office-gt1
returns-then-office-gt1 c =
    let s = c in
    record { answer = volume-above s.args.room.now s.args.words.now s.args.reals.now s.args.office s.args.body c.unknown_tag.result c.if-office-gt1.true c.unknown_tag.ensures s.args.faces.now; faces = c.clear.ensures }

pub returns : goal.returns
returns c =
    let s = c in
    let r = c.body_volume.ensures in
    record { answer = r.answer ∙ volume-there s.args.room.now s.args.words.now s.args.reals.now s.args.office s.args.body _ (c.body_for-seen.ensures s.args.room.now s.args.reals.now) c.if-office-gt1.false s.args.faces.now; faces = r.faces }
