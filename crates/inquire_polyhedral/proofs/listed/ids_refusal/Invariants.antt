-- `inquire_polyhedral::listed::ids_refusal` meets its contract: a turn of the loop is one id more. Assumes nothing.
use Rattle.std.specs.Prelude.{◌≡◌}
use Rattle.std.proofs.Common.{take}
use Rattle.meaning.specs.Refuse.{first_of}
use Rattle.inquire_polyhedral.specs.Tested.{tested}
use Rattle.inquire_polyhedral.proofs.listed.ids_refusal.Given as goal

abbrev pub invariant-loop-id : goal.invariant-loop-id
invariant-loop-id l = l.n ≡ first_of (tested l.room l.words l.reals l.test) (take l.id-index l.ids)
