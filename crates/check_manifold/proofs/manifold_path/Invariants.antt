-- `check_manifold::manifold_path` meets its contract: a turn of the loop is one more source. Assumes nothing.
use Rattle.std.proofs.Common.{take}
use Rattle.meaning.specs.Lists.{joined, firsts}
use Rattle.meaning.specs.Faults.{manifold_edge}
use Rattle.memory_layout.specs.Decode.{decode}
use Rattle.walk_marks.specs.Marks.{Marked}
use Rattle.walk_visits.specs.Visits.{ids_of}
use Rattle.check_reasons.specs.Log.{Noted}
use Rattle.check_manifold.proofs.manifold_path.Given as goal

abbrev pub invariant-loop-p : goal.invariant-loop-p
invariant-loop-p l = (Noted (joined (manifold_edge (decode l.room l.words l.reals)) (firsts (ids_of l.room l.words (take l.p l.path)))) l.initial.nums l.initial.tally l.nums l.tally) × (Marked l.marks (ids_of l.room l.words (take l.p l.path)))
