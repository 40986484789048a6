-- `office_measures::fit_to_saw` meets its contract. Assumes nothing.
use mathlib.Core.Path.{◌∙◌}
use borrow.Author.Rules.{rules}
use Rattle.office_measures.specs.Laws.{fit-there, fit-above}
use Rattle.office_measures.proofs.fit_to_saw.Goals as goal

pub returns-then-office-gt1 : goal.returns-then-office-gt1
returns-then-office-gt1 c =
    let s = c in
    record { answer = fit-above s.args.room.now s.args.words.now s.args.reals.now s.args.office s.args.body c.unknown_tag.result c.if-office-gt1.true c.unknown_tag.ensures s.args.faces.now s.args.edges.now; faces = c.clear.ensures; edges = c.clear-then-office-gt1.ensures }

pub returns : goal.returns
returns c =
    let s = c in
    let r = c.fit_to_saw.ensures in
    record { answer = r.answer ∙ fit-there s.args.room.now s.args.words.now s.args.reals.now s.args.office s.args.body _ (c.body_for-seen.ensures s.args.room.now s.args.reals.now) c.if-office-gt1.false s.args.faces.now s.args.edges.now; faces = r.faces; edges = r.edges }
