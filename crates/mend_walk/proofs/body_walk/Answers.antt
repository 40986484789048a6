-- `mend_walk::body_walk` meets its contract: its regions. Assumes nothing.
use native.Mathlib.Omega.{arith}
use Rattle.meaning_mends.specs.Mends.{region_meetings}
use Rattle.mend_meetings.specs.Facts.{model_of}
use Rattle.mend_meetings.specs.Laws.{slot-few}
use Rattle.mend_walk.specs.Laws.{body-there, list-there, body-meetings, goes-listed}
use Rattle.mend_walk.proofs.body_walk.Goals as goal

pub overflow_cast-b : goal.overflow_cast-b
overflow_cast-b c = let s = c in omega (arith, slot-few s.args.room.now s.args.words.now s.requires.ready.lists 0 s.args.body (omega arith) (body-there s.args.room.now s.args.words.now s.args.body s.requires.body_value).slot)

pub list-ids-requires : goal.list-ids-requires
list-ids-requires c = let s = c in record { lists = s.requires.ready.lists; j_bound = (omega arith, (body-there s.args.room.now s.args.words.now s.args.body s.requires.body_value).slot) }

pub regions-requires : goal.regions-requires
regions-requires c = let s = c in record { ready = s.requires.ready; ids_value = list-there (body-there s.args.room.now s.args.words.now s.args.body s.requires.body_value) c.list-ids.ensures }

pub shape_of-nums : goal.shape_of-nums
shape_of-nums c = c.regions.ensures.long

pub shape_of-marks : goal.shape_of-marks
shape_of-marks c = c.regions.ensures.marks

pub returns : goal.returns
returns c = let s = c in goes-listed (region_meetings (model_of s.args.room.now s.args.words.now) s.args.body) (body-meetings s.args.room.now s.args.words.now s.args.body) c.list-ids.ensures c.regions.ensures
