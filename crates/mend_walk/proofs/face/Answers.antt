-- `mend_walk::face` meets its contract: its loops. Assumes nothing.
use native.Mathlib.Omega.{arith}
use Rattle.meaning_mends.specs.Mends.{loop_meetings}
use Rattle.mend_meetings.specs.Facts.{model_of}
use Rattle.mend_walk.specs.Laws.{face-there, list-there, face-meetings, goes-listed}
use Rattle.mend_walk.proofs.face.Goals as goal

pub list-ids-requires : goal.list-ids-requires
list-ids-requires c = let s = c in record { lists = s.requires.ready.lists; j_bound = (omega arith, (face-there s.args.room.now s.args.words.now s.args.f s.requires.f_value).slot) }

pub loops-requires : goal.loops-requires
loops-requires c = let s = c in record { ready = s.requires.ready; ids_value = list-there (face-there s.args.room.now s.args.words.now s.args.f s.requires.f_value) c.list-ids.ensures }

pub shape_of-nums : goal.shape_of-nums
shape_of-nums c = c.loops.ensures.long

pub shape_of-marks : goal.shape_of-marks
shape_of-marks c = c.loops.ensures.marks

pub returns : goal.returns
returns c = let s = c in goes-listed (loop_meetings (model_of s.args.room.now s.args.words.now) s.args.f) (face-meetings s.args.room.now s.args.words.now s.args.f) c.list-ids.ensures c.loops.ensures
