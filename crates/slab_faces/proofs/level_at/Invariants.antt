-- `slab_faces::level_at` meets its contract. Assumes nothing.
use Rattle.std.specs.Prelude.{◌≡◌}
use Rattle.std.proofs.Common.{take}
use Rattle.meaning.specs.Lists.{all}
use Rattle.memory_layout.specs.Decode.{decode}
use Rattle.slab_faces.specs.Tested.{level_at}
use Rattle.slab_faces.proofs.level_at.Given as goal

abbrev pub invariant-loop-fin : goal.invariant-loop-fin
invariant-loop-fin l = l.ok ≡ all (level_at (decode l.room l.words l.reals) l.axis l.at) (take l.fin-index l.fins)
