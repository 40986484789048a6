-- `course_stones::weigh` meets its contract. Assumes nothing.
use Rattle.course_stones.specs.Weighing.{Weighed}
use Rattle.course_stones.proofs.weigh.Given as goal

abbrev pub invariant-loop-b : goal.invariant-loop-b
invariant-loop-b l = Weighed l.room l.words l.reals l.office l.courses l.n l.initial.faces l.initial.refused l.initial.plus l.initial.minus l.faces l.refused l.plus l.minus l.b
