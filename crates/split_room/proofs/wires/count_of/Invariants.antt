-- `split_room::wires::count_of` meets its contract. Assumes nothing.
use Rattle.std.specs.Prelude.{◌≡◌, ◌≤◌}
use Rattle.std.proofs.Common.{take}
use Rattle.meaning.specs.Lists.{count}
use Rattle.split_room.proofs.wires.count_of.Given as goal

abbrev pub invariant-loop-id : goal.invariant-loop-id
invariant-loop-id l = (l.n ≤ l.id-index) × (l.n ≡ count l.x (take l.id-index l.s))
