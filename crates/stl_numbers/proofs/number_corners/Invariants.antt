-- `stl_numbers::number_corners` meets its contract: a turn of the loop numbers one more corner. Assumes nothing.
use Rattle.stl_body.specs.Read.{stl_triangles, same_point, corners}
use Rattle.stl_body.specs.Flat.{flat_points}
use Rattle.stl_numbers.specs.Turns.{Turned}
use Rattle.stl_numbers.proofs.number_corners.Given as goal

abbrev pub invariant-loop-k : goal.invariant-loop-k
invariant-loop-k l = Turned same_point flat_points (corners (stl_triangles l.bytes)) l.initial.numbers l.numbers l.initial.points l.points l.many l.k
