-- `course_stones::lists_body` meets its contract. Assumes nothing.
use Rattle.std.proofs.Common.{refl, sym, arith}
use Rattle.meaning_list_laws.specs.Lists.{member-none}
use Rattle.course_stones.specs.Weighing.{member-turn}
use Rattle.course_stones.proofs.lists_body.Goals as goal

pub loop-e-init : goal.loop-e-init
loop-e-init c = sym (member-none _)

pub loop-e-preserved : goal.loop-e-preserved
loop-e-preserved c = member-turn c.args.body c.args.l.now c.loop-e.e-index _ _ (omega arith) c.loop-e.invariant refl
