-- `inquire_polyhedral::rims::loops_refusal` meets its contract: a turn of the loop is one loop more. Assumes nothing.
use Rattle.std.specs.Prelude.{◌≡◌}
use Rattle.std.proofs.Common.{take}
use Rattle.meaning.specs.Refuse.{first_of}
use Rattle.inquire_polyhedral.specs.Tested.{loop_straight}
use Rattle.inquire_polyhedral.proofs.rims.loops_refusal.Given as goal

abbrev pub invariant-loop-rim : goal.invariant-loop-rim
invariant-loop-rim l = l.n ≡ first_of (loop_straight l.room l.words l.reals) (take l.rim-index l.loops)
