-- `stl_corners::all_finite` meets its contract: a turn of the loop is one more triangle. Assumes nothing.
use Rattle.std.specs.Prelude.{◌≡◌, drop}
use Rattle.stl_body.specs.Read.{triangles_in, corners, all_finite}
use Rattle.stl_corners.proofs.all_finite.Given as goal

abbrev pub invariant-loop-k : goal.invariant-loop-k
invariant-loop-k l = l.ok ≡ all_finite (corners (triangles_in l.k (drop 84 l.bytes)))
