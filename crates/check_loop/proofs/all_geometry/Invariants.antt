-- `check_loop::all_geometry` meets its contract: a turn of the loop is one fin more. Assumes nothing.
use Rattle.std.proofs.Common.{take}
use Rattle.meaning.specs.Lists.{joined}
use Rattle.memory_layout.specs.Decode.{decode}
use Rattle.check_ends.specs.Ends.{ref_of}
use Rattle.check_fin.specs.Fin.{fin_on}
use Rattle.check_reasons.specs.Log.{Noted}
use Rattle.check_loop.proofs.all_geometry.Given as goal

abbrev pub invariant-loop-id : goal.invariant-loop-id
invariant-loop-id l = Noted (joined (fin_on (decode l.room l.words l.reals) l.n (ref_of l.surface)) (take l.id-index l.fins)) l.initial.nums l.initial.tally l.nums l.tally
