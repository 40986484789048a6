-- `walk_visits::listed` meets its contract: a turn of the loop is one more source. Assumes nothing.
use Rattle.std.specs.Prelude.{◌≡◌, length}
use Rattle.std.proofs.Common.{take}
use Rattle.meaning.specs.Lists.{member, joined}
use Rattle.walk_sources.specs.Sources.{part_of}
use Rattle.walk_visits.proofs.listed.Given as goal

abbrev pub invariant-loop-source : goal.invariant-loop-source
invariant-loop-source l = (length l.buf ≡ 1024) × (l.found ≡ member l.x (joined (part_of l.room l.words) (take l.source-index (take l.p l.path))))
