-- `check_regions::all_shells` meets its contract: a turn of the loop is one shell more. Assumes nothing.
use Rattle.std.proofs.Common.{take}
use Rattle.meaning.specs.Lists.{joined}
use Rattle.meaning.specs.Faults.{shell_findings}
use Rattle.memory_layout.specs.Decode.{decode}
use Rattle.check_loop.specs.Loop.{options}
use Rattle.check_reasons.specs.Log.{Noted}
use Rattle.check_regions.proofs.all_shells.Given as goal

abbrev pub invariant-loop-s : goal.invariant-loop-s
invariant-loop-s l = Noted (joined (shell_findings (decode l.room l.words l.reals) (options l.geometry l.n) l.r) (take l.s-index l.shells)) l.initial.nums l.initial.tally l.nums l.tally
