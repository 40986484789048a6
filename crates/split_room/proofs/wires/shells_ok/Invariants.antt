-- `split_room::wires::shells_ok` meets its contract. Assumes nothing.
use Rattle.std.specs.Prelude.{◌≡◌}
use Rattle.meaning.specs.Lists.{all_below}
use Rattle.split_place.specs.Place.{wire_test}
use Rattle.split_room.proofs.wires.shells_ok.Given as goal

abbrev pub invariant-loop-s : goal.invariant-loop-s
invariant-loop-s l = l.ok ≡ all_below (wire_test l.room l.words l.edge l.fit) l.s
