-- `slab_edges::ids_tested` meets its contract. Assumes nothing.
use Rattle.std.specs.Prelude.{◌≡◌}
use Rattle.std.proofs.Common.{take}
use Rattle.meaning.specs.Refuse.{first_of}
use Rattle.memory_layout.specs.Decode.{decode}
use Rattle.slab_edges.specs.Tested.{id_tested}
use Rattle.slab_edges.proofs.ids_tested.Given as goal

abbrev pub invariant-loop-id : goal.invariant-loop-id
invariant-loop-id l = l.n ≡ first_of (id_tested (decode l.room l.words l.reals) l.rule) (take l.id-index l.ids)
