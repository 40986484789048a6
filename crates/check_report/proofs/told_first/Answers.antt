-- `check_report::told_first` meets its contract. Assumes nothing.
use borrow.Author.Rules.{rules}
use Rattle.check_report.specs.Laws.{first-none, first-is}
use Rattle.check_report.proofs.told_first.Goals as goal

pub returns-then-faults-eq0 : goal.returns-then-faults-eq0
returns-then-faults-eq0 c = λ l e h. first-none l c.args.faults c.if-faults-eq0.true e

pub returns : goal.returns
returns c = λ l e h. first-is l c.args.faults c.args.nums c.if-faults-eq0.false e h
