-- `stl_numbers::point_place` meets its contract: a turn of the loop passes one more. Assumes nothing.
use Rattle.stl_body.specs.Read.{same_point}
use Rattle.stl_numbers.specs.Numbered.{things_in, point_in}
use Rattle.stl_numbers.specs.Met.{Passed}
use Rattle.stl_numbers.proofs.point_place.Given as goal

abbrev pub invariant-loop-i : goal.invariant-loop-i
invariant-loop-i l = Passed same_point l.p (things_in point_in 3 l.many l.points) l.i
