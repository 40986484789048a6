-- `course_edits::entry_good` meets its contract. Assumes nothing.
use mathlib.Core.Path.{refl}
use Rattle.course_edits.proofs.entry_good.Goals as goal

pub returns : goal.returns
returns c = refl
