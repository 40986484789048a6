-- `check_regions::all_regions` meets its contract: a turn of the loop is one region more. Assumes nothing.
use Rattle.std.proofs.Common.{take}
use Rattle.meaning.specs.Lists.{joined}
use Rattle.meaning.specs.Faults.{region_findings}
use Rattle.memory_layout.specs.Decode.{decode}
use Rattle.check_loop.specs.Loop.{options}
use Rattle.check_reasons.specs.Log.{Noted}
use Rattle.check_regions.proofs.all_regions.Given as goal

abbrev pub invariant-loop-r : goal.invariant-loop-r
invariant-loop-r l = Noted (joined (region_findings (decode l.room l.words l.reals) (options l.geometry l.n) l.b) (take l.r-index l.regions)) l.initial.nums l.initial.tally l.nums l.tally
