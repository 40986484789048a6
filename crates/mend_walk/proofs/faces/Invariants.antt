-- `mend_walk::faces` meets its contract: a turn of the loop is one face more. Assumes nothing.
use Rattle.meaning_mends.specs.Mends.{face_meetings}
use Rattle.mend_meetings.specs.Facts.{model_of}
use Rattle.mend_walk.specs.Laws.{Turn}
use Rattle.mend_walk.proofs.faces.Given as goal

abbrev pub invariant-loop-id : goal.invariant-loop-id
invariant-loop-id l = Turn (model_of l.room l.words) (face_meetings (model_of l.room l.words)) l.ids l.initial.nums l.initial.marks l.initial.n l.nums l.marks l.n l.id-index
