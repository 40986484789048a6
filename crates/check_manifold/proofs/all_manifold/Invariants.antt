-- `check_manifold::all_manifold` meets its contract: a turn of the loop is one edge more. Assumes nothing.
use Rattle.std.proofs.Common.{take}
use Rattle.meaning.specs.Lists.{joined}
use Rattle.meaning.specs.Faults.{manifold_edge}
use Rattle.memory_layout.specs.Decode.{decode}
use Rattle.check_reasons.specs.Log.{Noted}
use Rattle.check_manifold.proofs.all_manifold.Given as goal

abbrev pub invariant-loop-id : goal.invariant-loop-id
invariant-loop-id l = Noted (joined (manifold_edge (decode l.room l.words l.reals)) (take l.id-index l.ids)) l.initial.nums l.initial.tally l.nums l.tally
