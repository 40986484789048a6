-- `walk_marks::mark` meets its contract. Assumes nothing.
use mathlib.Core.Path.{sym}
use lib.Seq.{set_out}
use Rattle.walk_marks.proofs.mark.Goals as goal

pub returns-else-i-marks : goal.returns-else-i-marks
returns-else-i-marks c = sym (set_out _ _ _ c.if-i-marks.false)
