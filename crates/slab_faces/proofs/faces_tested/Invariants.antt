-- `slab_faces::faces_tested` meets its contract. Assumes nothing.
use Rattle.std.specs.Prelude.{◌≡◌}
use Rattle.std.proofs.Common.{take}
use Rattle.meaning.specs.Refuse.{first_of}
use Rattle.memory_layout.specs.Decode.{decode}
use Rattle.slab_faces.specs.Tested.{face_tested}
use Rattle.slab_faces.proofs.faces_tested.Given as goal

abbrev pub invariant-loop-face : goal.invariant-loop-face
invariant-loop-face l = l.n ≡ first_of (face_tested (decode l.room l.words l.reals) l.rule) (take l.face-index l.faces)
