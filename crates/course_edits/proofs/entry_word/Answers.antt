-- `course_edits::entry_word` meets its contract. Assumes nothing.
use mathlib.Core.Path.{refl}
use borrow.Author.Rules.{rules}
use Rattle.course_edits.proofs.entry_word.Goals as goal

pub returns : goal.returns
returns c = refl
