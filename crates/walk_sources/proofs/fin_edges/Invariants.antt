-- `walk_sources::fin_edges` meets its contract: a turn of the loop is one more fin. Assumes nothing.
use Rattle.std.specs.Prelude.{◌≡◌, map}
use Rattle.std.proofs.Common.{take}
use Rattle.walk_marks.specs.Marks.{puts}
use Rattle.walk_sources.specs.Sources.{fin_edge}
use Rattle.walk_sources.proofs.fin_edges.Given as goal

abbrev pub invariant-loop-k : goal.invariant-loop-k
invariant-loop-k l = l.buf ≡ puts l.initial.buf 0 (take l.k (map (fin_edge l.room l.words) l.fins))
