-- `course_table::entries` meets its contract. Assumes nothing.
use mathlib.Core.Path.{ap, ◌∙◌}
use Rattle.memory_layout.specs.Decode.{list_at}
use Rattle.course_table.specs.Laws.{course-held}
use Rattle.course_table.proofs.entries.Goals as goal

pub list_at-requires : goal.list_at-requires
list_at-requires c = rw c.course_at.ensures (course-held _ _ c.requires.lies c.requires.c_bound)

pub returns : goal.returns
returns c = c.list_at.ensures ∙ ap (list_at _) c.course_at.ensures
