-- `check_open_loop::open_loop` meets its contract: a turn of the loop is one fin more. Assumes nothing.
use Rattle.std.proofs.Common.{take}
use Rattle.meaning.specs.Lists.{rotated}
use Rattle.meaning.specs.Faults.{opens}
use Rattle.memory_layout.specs.Decode.{decode}
use Rattle.check_reasons.specs.Log.{Noted}
use Rattle.check_open_loop.proofs.open_loop.Given as goal

abbrev pub invariant-loop-k : goal.invariant-loop-k
invariant-loop-k l = Noted (opens (decode l.room l.words l.reals) (take l.k l.fins) (take l.k (rotated l.fins))) l.initial.nums l.initial.tally l.nums l.tally
