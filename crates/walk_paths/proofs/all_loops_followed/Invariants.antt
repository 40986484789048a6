-- `walk_paths::all_loops_followed` meets its contract: a turn of the loop is one more face. Assumes nothing.
use Rattle.std.specs.Prelude.{◌≡◌}
use Rattle.std.proofs.Common.{take}
use Rattle.meaning.specs.Lists.{all, joined}
use Rattle.memory_layout.specs.Entries.{list_of}
use Rattle.walk_sources.specs.Sources.{followed}
use Rattle.walk_paths.proofs.all_loops_followed.Given as goal

abbrev pub invariant-loop-face : goal.invariant-loop-face
invariant-loop-face l = l.ok ≡ all (followed l.room l.words 6) (joined (list_of l.room l.words 5) (take l.face-index l.faces))
