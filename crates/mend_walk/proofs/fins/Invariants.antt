-- `mend_walk::fins` meets its contract: a turn of the loop is one fin more. Assumes nothing.
use Rattle.mend_meetings.specs.Facts.{model_of}
use Rattle.mend_meetings.specs.Laws.{fin_meeting}
use Rattle.mend_walk.specs.Laws.{Turn}
use Rattle.mend_walk.proofs.fins.Given as goal

abbrev pub invariant-loop-id : goal.invariant-loop-id
invariant-loop-id l = Turn (model_of l.room l.words) (fin_meeting l.l) l.ids l.initial.nums l.initial.marks l.initial.n l.nums l.marks l.n l.id-index
