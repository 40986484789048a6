-- `stl_corners::all_apart` meets its contract: a turn of the loop is one more triangle. Assumes nothing.
use Rattle.std.specs.Prelude.{◌≡◌, drop}
use Rattle.stl_body.specs.Read.{triangles_in, all_apart}
use Rattle.stl_corners.proofs.all_apart.Given as goal

abbrev pub invariant-loop-k : goal.invariant-loop-k
invariant-loop-k l = l.ok ≡ all_apart (triangles_in l.k (drop 84 l.bytes))
