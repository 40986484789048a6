-- `check_report::check_body` meets its contract: the report up to its end. Assumes nothing.
use mathlib.Core.Path.{◌∙◌}
use Rattle.check_report.specs.Calls.{asked}
use Rattle.check_report.specs.Laws.{answer-all, words-all}
use borrow.Author.Rules.{rules}
use Rattle.check_report.proofs.check_body.Goals as goal

pub returns : goal.returns
returns c =
    let s = c in
    let r = c.checked.ensures in record { answer = r.answer ∙ answer-all s.args.room.now s.args.words.now s.args.reals.now s.args.body (asked s.args.geometry s.args.samples) s.args.faces.now s.args.edges.now s.args.nums.now; list = r.list ∙ words-all s.args.room.now s.args.words.now s.args.reals.now s.args.body (asked s.args.geometry s.args.samples) s.args.faces.now s.args.edges.now s.args.nums.now; faces = r.faces; edges = r.edges }
