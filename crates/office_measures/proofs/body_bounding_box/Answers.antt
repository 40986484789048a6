-- `office_measures::body_bounding_box` meets its contract. Assumes nothing.
use mathlib.Core.Path.{◌∙◌}
use borrow.Author.Rules.{rules}
use Rattle.office_measures.specs.Laws.{box-there, box-above}
use Rattle.office_measures.proofs.body_bounding_box.Goals as goal

pub returns-then-office-gt1 : goal.returns-then-office-gt1
returns-then-office-gt1 c =
    let s = c in
    record { answer = box-above s.args.room.now s.args.words.now s.args.reals.now s.args.office s.args.body c.unknown_tag.result c.if-office-gt1.true c.unknown_tag.ensures s.args.faces.now s.args.edges.now s.args.vertices.now; faces = c.clear.ensures; edges = c.clear-then-office-gt1.ensures; vertices = c.clear-then-office-gt1-2.ensures }

pub returns : goal.returns
returns c =
    let s = c in
    let r = c.body_bounding_box.ensures in
    record { answer = r.answer ∙ box-there s.args.room.now s.args.words.now s.args.reals.now s.args.office s.args.body _ (c.body_for-seen.ensures s.args.room.now s.args.reals.now) c.if-office-gt1.false s.args.faces.now s.args.edges.now s.args.vertices.now; faces = r.faces; edges = r.edges; vertices = r.vertices }
