-- `split_room::tables::gain` meets its contract. Assumes nothing.
use Rattle.std.specs.Prelude.{◌≡◌, ◌≤◌}
use Rattle.std.proofs.Common.{take}
use Rattle.meaning.specs.Lists.{count_if}
use Rattle.split_place.specs.Place.{owned_by}
use Rattle.split_room.proofs.tables.gain.Given as goal

abbrev pub invariant-loop-fin : goal.invariant-loop-fin
invariant-loop-fin l = (l.n ≤ l.fin-index) × (l.n ≡ count_if (owned_by l.room l.words l.owner) (take l.fin-index l.fins))
