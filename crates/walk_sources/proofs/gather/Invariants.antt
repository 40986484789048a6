-- `walk_sources::gather` meets its contract: a turn of the loop is one more record. Assumes nothing.
use Rattle.std.specs.Prelude.{◌≡◌, ◌+◌, ◌*◌, ◌≤◌, length}
use Rattle.std.proofs.Common.{take}
use Rattle.meaning.specs.Lists.{joined}
use Rattle.memory_layout.specs.Entries.{list_of}
use Rattle.walk_marks.specs.Marks.{puts}
use Rattle.walk_sources.specs.Sources.{sourced}
use Rattle.walk_sources.proofs.gather.Given as goal

abbrev pub invariant-loop-id : goal.invariant-loop-id
invariant-loop-id l = (l.n ≤ l.m + 1024 * l.id-index) × (l.n ≡ l.m + length (joined (list_of l.room l.words l.j) (take l.id-index l.ids))) × (l.path ≡ puts l.initial.path l.m (sourced l.k (joined (list_of l.room l.words l.j) (take l.id-index l.ids))))
