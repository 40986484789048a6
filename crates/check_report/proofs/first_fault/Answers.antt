-- `check_report::first_fault` meets its contract: read off the report that goes up to it. Assumes nothing.
use Rattle.check_report.specs.Calls.{asked}
use Rattle.check_report.specs.Laws.{first-refused, first-given}
use borrow.Author.Rules.{rules}
use Rattle.check_report.proofs.first_fault.Goals as goal

pub returns-in-Refused : goal.returns-in-Refused
returns-in-Refused c =
    let s = c in
    let r = c.checked.ensures in
    record { answer = first-refused s.args.room.now s.args.words.now s.args.reals.now s.args.body (asked s.args.geometry s.args.samples) s.args.faces.now s.args.edges.now _ r.answer _ c.in-Refused.is; faces = r.faces; edges = r.edges }

pub returns-in-Is : goal.returns-in-Is
returns-in-Is c =
    let s = c in
    let r = c.checked.ensures in
    record { answer = first-given s.args.room.now s.args.words.now s.args.reals.now s.args.body (asked s.args.geometry s.args.samples) s.args.faces.now s.args.edges.now _ r.answer _ c.in-Is.is _ r.list _ c.told_first.ensures; faces = r.faces; edges = r.edges }
