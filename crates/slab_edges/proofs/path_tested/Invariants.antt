-- `slab_edges::path_tested` meets its contract. Assumes nothing.
use Rattle.std.specs.Prelude.{◌≡◌, length}
use Rattle.std.proofs.Common.{take}
use Rattle.meaning.specs.Lists.{joined}
use Rattle.meaning.specs.Refuse.{first_of}
use Rattle.memory_layout.specs.Decode.{decode}
use Rattle.walk_sources.specs.Sources.{part_of}
use Rattle.slab_edges.specs.Tested.{id_tested}
use Rattle.slab_edges.proofs.path_tested.Given as goal

abbrev pub invariant-loop-source : goal.invariant-loop-source
invariant-loop-source l = (length l.buf ≡ 1024) × (l.n ≡ first_of (id_tested (decode l.room l.words l.reals) l.rule) (joined (part_of l.room l.words) (take l.source-index l.path)))
