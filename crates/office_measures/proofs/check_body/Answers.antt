-- `office_measures::check_body` meets its contract. Assumes nothing.
use mathlib.Core.Path.{◌∙◌}
use borrow.Author.Rules.{rules}
use Rattle.check_report.specs.Calls.{asked}
use Rattle.office_measures.specs.Laws.{report-there, report-above, faults-there, faults-above}
use Rattle.office_measures.proofs.check_body.Goals as goal

pub returns-then-office-gt1 : goal.returns-then-office-gt1
returns-then-office-gt1 c =
    let s = c in
    record { answer = report-above s.args.room.now s.args.words.now s.args.reals.now s.args.office s.args.body c.unknown_tag.result c.if-office-gt1.true c.unknown_tag.ensures (asked s.args.geometry s.args.samples) s.args.faces.now s.args.edges.now s.args.nums.now; list = faults-above s.args.room.now s.args.words.now s.args.reals.now s.args.office s.args.body c.unknown_tag.result c.if-office-gt1.true c.unknown_tag.ensures (asked s.args.geometry s.args.samples) s.args.faces.now s.args.edges.now s.args.nums.now; faces = c.clear.ensures; edges = c.clear-then-office-gt1.ensures }

pub returns : goal.returns
returns c =
    let s = c in
    let r = c.check_body.ensures in
    record { answer = r.answer ∙ report-there s.args.room.now s.args.words.now s.args.reals.now s.args.office s.args.body _ (c.body_for-seen.ensures s.args.room.now s.args.reals.now) c.if-office-gt1.false (asked s.args.geometry s.args.samples) s.args.faces.now s.args.edges.now s.args.nums.now; list = r.list ∙ faults-there s.args.room.now s.args.words.now s.args.reals.now s.args.office s.args.body _ (c.body_for-seen.ensures s.args.room.now s.args.reals.now) c.if-office-gt1.false (asked s.args.geometry s.args.samples) s.args.faces.now s.args.edges.now s.args.nums.now; faces = r.faces; edges = r.edges }
