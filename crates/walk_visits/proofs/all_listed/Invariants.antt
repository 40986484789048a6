-- `walk_visits::all_listed` meets its contract: a turn of the loop is one more source. Assumes nothing.
use Rattle.std.specs.Prelude.{◌≡◌, ltb, length}
use Rattle.std.proofs.Common.{take}
use Rattle.meaning.specs.Lists.{all, joined}
use Rattle.walk_sources.specs.Sources.{part_of}
use Rattle.walk_visits.proofs.all_listed.Given as goal

abbrev pub invariant-loop-source : goal.invariant-loop-source
invariant-loop-source l = (length l.buf ≡ 1024) × (l.ok ≡ all (λ x. ltb x l.used) (joined (part_of l.room l.words) (take l.source-index l.path)))
