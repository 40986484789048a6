-- `check_loop::all_fins` meets its contract: a turn of the loop is one fin more. Assumes nothing.
use Rattle.std.proofs.Common.{take}
use Rattle.meaning.specs.Lists.{joined}
use Rattle.meaning.specs.Faults.{fin_findings}
use Rattle.memory_layout.specs.Decode.{decode}
use Rattle.check_reasons.specs.Log.{Noted}
use Rattle.check_loop.proofs.all_fins.Given as goal

abbrev pub invariant-loop-id : goal.invariant-loop-id
invariant-loop-id l = Noted (joined (fin_findings (decode l.room l.words l.reals) l.l) (take l.id-index l.fins)) l.initial.nums l.initial.tally l.nums l.tally
