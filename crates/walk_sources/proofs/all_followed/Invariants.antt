-- `walk_sources::all_followed` meets its contract: a turn of the loop is one more record. Assumes nothing.
use Rattle.std.specs.Prelude.{◌≡◌}
use Rattle.std.proofs.Common.{take}
use Rattle.meaning.specs.Lists.{all}
use Rattle.walk_sources.specs.Sources.{followed}
use Rattle.walk_sources.proofs.all_followed.Given as goal

abbrev pub invariant-loop-id : goal.invariant-loop-id
invariant-loop-id l = l.ok ≡ all (followed l.room l.words l.j) (take l.id-index l.ids)
