-- `split_room::wires::wires_ok` meets its contract. Assumes nothing.
use native.Mathlib.Omega.{arith}
use Rattle.split_place.specs.Place.{wire_test}
use Rattle.split_place.specs.Laws.{count-le}
use Rattle.split_room.proofs.wires.wires_ok.Goals as goal

pub list-wires-requires : goal.list-wires-requires
list-wires-requires c = record { lists = c.requires.lists; j_bound = (omega arith, c.requires.shell_bound) }

pub overflow_add-result : goal.overflow_add-result
overflow_add-result c = let h = c.count_of-times.ensures in let n = count-le c.args.edge c.list-wires.result.now in omega arith

pub returns-then-fit : goal.returns-then-fit
unfolding wire_test
returns-then-fit c = rw (c.if-fit.true, c.count_of-times.ensures, c.list-wires.ensures)

pub returns : goal.returns
unfolding wire_test
returns c = rw (c.if-fit.false, c.count_of-times.ensures, c.list-wires.ensures)
