-- `walk_sources::add_sources` meets its contract: a turn of the loop is one more id. Assumes nothing.
use Rattle.std.specs.Prelude.{◌≡◌}
use Rattle.std.proofs.Common.{take}
use Rattle.walk_marks.specs.Marks.{puts}
use Rattle.walk_sources.specs.Sources.{sourced}
use Rattle.walk_sources.proofs.add_sources.Given as goal

abbrev pub invariant-loop-i : goal.invariant-loop-i
invariant-loop-i l = l.path ≡ puts l.initial.path l.m (take l.i (sourced l.k l.ids))
