-- `check_loop::loop_geometry` meets its contract: the face's own surface. Assumes nothing.
use mathlib.Core.Path.{sym}
use Rattle.memory_layout.specs.Decode.{decode}
use Rattle.memory_layout.specs.Laws.{lists_of}
use Rattle.check_reasons.specs.Laws.{enough-same, noted-same}
use Rattle.check_loop.specs.Laws.{geometry-told}
use Rattle.check_loop.proofs.loop_geometry.Goals as goal

pub face_at-face-requires : goal.face_at-face-requires
face_at-face-requires c = record { lists = lists_of _ _ _ c.requires.fit; i_bound = c.requires.n_bound.1 }

pub all_geometry-requires : goal.all_geometry-requires
all_geometry-requires c = record { fit = c.requires.fit; n_bound = c.requires.n_bound.0; enough = enough-same (geometry-told (decode c.args.room.now c.args.words.now c.args.reals.now) c.args.n c.args.f _ c.args.fins.now (c.face_at-face.ensures c.args.reals.now)) c.requires.enough }

pub returns : goal.returns
returns c = noted-same (sym (geometry-told (decode c.args.room.now c.args.words.now c.args.reals.now) c.args.n c.args.f _ c.args.fins.now (c.face_at-face.ensures c.args.reals.now))) c.all_geometry.ensures
