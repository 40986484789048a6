-- `check_regions::all_faces` meets its contract: a turn of the loop is one face more. Assumes nothing.
use Rattle.std.proofs.Common.{take}
use Rattle.meaning.specs.Lists.{joined}
use Rattle.meaning.specs.Faults.{face_findings}
use Rattle.memory_layout.specs.Decode.{decode}
use Rattle.check_loop.specs.Loop.{options}
use Rattle.check_reasons.specs.Log.{Noted}
use Rattle.check_regions.proofs.all_faces.Given as goal

abbrev pub invariant-loop-f : goal.invariant-loop-f
invariant-loop-f l = Noted (joined (face_findings (decode l.room l.words l.reals) (options l.geometry l.n) l.s) (take l.f-index l.faces)) l.initial.nums l.initial.tally l.nums l.tally
