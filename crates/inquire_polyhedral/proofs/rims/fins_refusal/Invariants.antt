-- `inquire_polyhedral::rims::fins_refusal` meets its contract: a turn of the loop is one fin more. Assumes nothing.
use Rattle.std.specs.Prelude.{◌≡◌}
use Rattle.std.proofs.Common.{take}
use Rattle.meaning.specs.Refuse.{first_of}
use Rattle.inquire_polyhedral.specs.Tested.{fin_straight}
use Rattle.inquire_polyhedral.proofs.rims.fins_refusal.Given as goal

abbrev pub invariant-loop-fin : goal.invariant-loop-fin
invariant-loop-fin l = l.n ≡ first_of (fin_straight l.room l.words l.reals) (take l.fin-index l.fins)
