-- `course_table::known` meets its contract: a turn of the loop is one more entry. Assumes nothing.
use Rattle.std.specs.Prelude.{ltb}
use Rattle.std.proofs.Common.{refl, arith}
use Rattle.meaning_list_laws.specs.Lists.{all_none}
use Rattle.course_table.specs.Laws.{all-turn}
use Rattle.course_table.proofs.known.Goals as goal

pub loop-e-init : goal.loop-e-init
loop-e-init c = rw all_none

pub loop-e-preserved : goal.loop-e-preserved
loop-e-preserved c = all-turn (λ e. ltb e 131072) c.args.l.now c.loop-e.e-index _ _ (omega arith) c.loop-e.invariant refl
