-- `stl_numbers::number_edges` meets its contract: a turn of the loop numbers one more step's edge. Assumes nothing.
use Rattle.std.specs.Prelude.{map}
use Rattle.stl_body.specs.Read.{same_step, edge_of}
use Rattle.stl_body.specs.Flat.{steps_in, flat_steps}
use Rattle.stl_numbers.specs.Turns.{Turned}
use Rattle.stl_numbers.proofs.number_edges.Given as goal

abbrev pub invariant-loop-k : goal.invariant-loop-k
invariant-loop-k l = Turned same_step flat_steps (map edge_of (steps_in l.n l.numbers)) l.initial.edges l.edges l.initial.ends l.ends l.many l.k
