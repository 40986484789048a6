-- `split_stop_place::fins::loop_stop` meets its contract. Assumes nothing.
use Rattle.split_stop_place.specs.FinRows.{loop_told}
use Rattle.memory_layout.specs.Laws.{lists_of}
use lib.Dec.{lit<}
use Rattle.split_stop_place.proofs.fins.loop_stop.Goals as goal

pub list-requires : goal.list-requires
list-requires c = let s = c in record { lists = lists_of s.args.room.now s.args.words.now s.args.reals.now s.requires.fit; j_bound = (lit< tt, s.requires.owner_bound) }

pub face_of-face-requires : goal.face_of-face-requires
face_of-face-requires c = let s = c in record { lists = lists_of s.args.room.now s.args.words.now s.args.reals.now s.requires.fit; owner_bound = s.requires.owner_bound }

pub face_stop-requires : goal.face_stop-requires
face_stop-requires c = c.requires.fit.sized

pub returns : goal.returns
unfolding loop_told
returns c = rw (c.first.ensures, c.face_stop.ensures, c.stop_at.ensures, c.unless.ensures, c.face_of-face.ensures, c.count_of-times.ensures, c.list.ensures)
