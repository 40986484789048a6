-- `split_foreign::list_status` meets its contract. Assumes nothing.
use Rattle.std.specs.Prelude.{◌≡◌}
use Rattle.std.proofs.Common.{take}
use Rattle.split_foreign.specs.Status.{greatest, standing}
use Rattle.split_foreign.proofs.list_status.Given as goal

abbrev pub invariant-loop-id : goal.invariant-loop-id
invariant-loop-id l = l.s ≡ greatest (standing l.below) (take l.id-index l.ids)
