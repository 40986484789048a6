-- `split_room::tables::loops_fit` meets its contract. Assumes nothing.
use Rattle.std.specs.Prelude.{◌≡◌}
use Rattle.std.proofs.Common.{take}
use Rattle.meaning.specs.Lists.{all}
use Rattle.split_place.specs.Place.{loop_test}
use Rattle.split_room.proofs.tables.loops_fit.Given as goal

abbrev pub invariant-loop-k : goal.invariant-loop-k
invariant-loop-k l = l.ok ≡ all (loop_test l.room l.words l.fins) (take l.k l.fins)
