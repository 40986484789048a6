-- `split_stop_edge::parts::pcurves_stop` meets its contract. Assumes nothing.
use Rattle.std.specs.Prelude.{◌≡◌}
use Rattle.std.proofs.Common.{take}
use Rattle.meaning.specs.Lists.{joined}
use Rattle.split_stop_parts.specs.Told.{row_told}
use Rattle.split_stop_edge.specs.EdgeRows.{pcurve_parts}
use Rattle.split_stop_edge.proofs.parts.pcurves_stop.Given as goal

abbrev pub invariant-loop-fin : goal.invariant-loop-fin
invariant-loop-fin l = l.stop ≡ row_told 3 (joined (pcurve_parts l.room l.words l.edge) (take l.fin-index l.fins))
