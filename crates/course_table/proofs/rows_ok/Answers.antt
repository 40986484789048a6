-- `course_table::rows_ok` meets its contract. Assumes nothing.
use Rattle.std.proofs.Common.{arith}
use Rattle.meaning_list_laws.specs.Tests.{all_below-none, all_below-turn}
use Rattle.course_table.specs.Laws.{row_lies}
use Rattle.course_table.proofs.rows_ok.Goals as goal

pub loop-c-init : goal.loop-c-init
loop-c-init c = rw all_below-none

pub course_ok-ok-requires : goal.course_ok-ok-requires
course_ok-ok-requires c = row_lies _ c.args.n _ c.requires (omega arith)

pub loop-c-preserved : goal.loop-c-preserved
loop-c-preserved c = all_below-turn _ _ _ _ c.loop-c.invariant c.course_ok-ok.ensures
