-- `check_report::start` meets its contract. Assumes nothing.
use Rattle.check_report.proofs.start.Goals as goal

pub returns-then-first : goal.returns-then-first
returns-then-first c = rw c.if-first.true

pub returns : goal.returns
returns c = rw c.if-first.false
