-- `slab_faces::faces_tested` meets its contract. Assumes nothing.
use Rattle.std.proofs.Common.{sym, ◌∙◌, arith}
use Rattle.meaning_list_laws.specs.Tests.{first_of-none}
use Rattle.walk_marks.specs.Laws.{first-turn, all-nth}
use Rattle.inquire_sides.specs.Sides.{face_whole}
use Rattle.slab_faces.proofs.faces_tested.Goals as goal

pub loop-face-init : goal.loop-face-init
loop-face-init c = sym (first_of-none _)

pub face_tested-requires : goal.face_tested-requires
face_tested-requires c = record { fit = c.requires.fit; f_value = all-nth (face_whole c.args.room.now c.args.words.now) c.args.faces.now c.loop-face.face-index c.requires.faces_value (omega arith) }

pub loop-face-preserved : goal.loop-face-preserved
loop-face-preserved c = c.then-n.ensures ∙ first-turn _ c.args.faces.now c.loop-face.face-index _ _ (omega arith) c.loop-face.invariant c.face_tested.ensures
