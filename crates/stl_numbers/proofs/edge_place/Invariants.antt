-- `stl_numbers::edge_place` meets its contract: a turn of the loop passes one more. Assumes nothing.
use Rattle.stl_body.specs.Read.{step, same_step}
use Rattle.stl_numbers.specs.Numbered.{things_in, step_in}
use Rattle.stl_numbers.specs.Met.{Passed}
use Rattle.stl_numbers.proofs.edge_place.Given as goal

abbrev pub invariant-loop-i : goal.invariant-loop-i
invariant-loop-i l = Passed same_step (step l.e.from l.e.to) (things_in step_in 2 l.many l.ends) l.i
