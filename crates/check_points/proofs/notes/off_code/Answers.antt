-- `check_points::notes::off_code` meets its contract. Assumes nothing.
use Rattle.check_points.proofs.notes.off_code.Goals as goal

pub returns-then-off : goal.returns-then-off
returns-then-off c = rw c.if-off.true

pub returns : goal.returns
returns c = rw c.if-off.false
