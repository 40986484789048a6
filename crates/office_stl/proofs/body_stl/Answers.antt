-- `office_stl::body_stl` meets its contract. Assumes nothing.
use mathlib.Core.Path.{◌∙◌}
use borrow.Author.Rules.{rules}
use Rattle.office_stl.specs.Laws.{write-there, written-there, write-above, written-above}
use Rattle.office_stl.proofs.body_stl.Goals as goal

pub returns-then-office-gt1 : goal.returns-then-office-gt1
returns-then-office-gt1 c =
    let s = c in
    let k = c.unknown_tag in
    record { answer = write-above s.args.room.now s.args.words.now s.args.reals.now s.args.office s.args.body k.result c.if-office-gt1.true k.ensures s.args.faces.now s.args.bytes.now; bytes = written-above s.args.room.now s.args.words.now s.args.reals.now s.args.office s.args.body k.result c.if-office-gt1.true k.ensures s.args.faces.now s.args.bytes.now; faces = c.clear.ensures }

pub returns : goal.returns
returns c =
    let s = c in
    let r = c.body_stl.ensures in
    let e = c.body_for-seen.ensures s.args.room.now s.args.reals.now in
    record { answer = r.answer ∙ write-there s.args.room.now s.args.words.now s.args.reals.now s.args.office s.args.body _ e c.if-office-gt1.false s.args.faces.now s.args.bytes.now; bytes = r.bytes ∙ written-there s.args.room.now s.args.words.now s.args.reals.now s.args.office s.args.body _ e c.if-office-gt1.false s.args.faces.now s.args.bytes.now; faces = r.faces }
