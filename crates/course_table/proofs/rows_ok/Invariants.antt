-- `course_table::rows_ok` meets its contract. Assumes nothing.
use Rattle.std.specs.Prelude.{◌≡◌}
use Rattle.meaning.specs.Lists.{all_below}
use Rattle.course_table.specs.Table.{course_ok}
use Rattle.course_table.proofs.rows_ok.Given as goal

abbrev pub invariant-loop-c : goal.invariant-loop-c
invariant-loop-c l = l.ok ≡ all_below (course_ok l.courses) l.c
