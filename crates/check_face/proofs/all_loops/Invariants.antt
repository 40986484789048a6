-- `check_face::all_loops` meets its contract: a turn of the loop is one loop more. Assumes nothing.
use Rattle.std.proofs.Common.{take}
use Rattle.meaning.specs.Lists.{joined}
use Rattle.meaning.specs.Faults.{loop_findings}
use Rattle.memory_layout.specs.Decode.{decode}
use Rattle.check_reasons.specs.Log.{Noted}
use Rattle.check_loop.specs.Loop.{options}
use Rattle.check_face.proofs.all_loops.Given as goal

abbrev pub invariant-loop-l : goal.invariant-loop-l
invariant-loop-l l = Noted (joined (loop_findings (decode l.room l.words l.reals) (options l.geometry l.n) l.f) (take l.l-index l.loops)) l.initial.nums l.initial.tally l.nums l.tally
