-- `office_stl::body_stl_length` meets its contract. Assumes nothing.
use mathlib.Core.Path.{◌∙◌}
use borrow.Author.Rules.{rules}
use Rattle.office_stl.specs.Laws.{length-there, length_above}
use Rattle.office_stl.proofs.body_stl_length.Goals as goal

pub returns-then-office-gt1 : goal.returns-then-office-gt1
returns-then-office-gt1 c =
    let s = c in
    record { answer = length_above s.args.room.now s.args.words.now s.args.reals.now s.args.office s.args.body c.unknown_tag.result c.if-office-gt1.true c.unknown_tag.ensures s.args.faces.now; faces = c.clear.ensures }

pub returns : goal.returns
returns c =
    let s = c in
    let r = c.body_stl_length.ensures in
    record { answer = r.answer ∙ length-there s.args.room.now s.args.words.now s.args.reals.now s.args.office s.args.body _ (c.body_for-seen.ensures s.args.room.now s.args.reals.now) c.if-office-gt1.false s.args.faces.now; faces = r.faces }
