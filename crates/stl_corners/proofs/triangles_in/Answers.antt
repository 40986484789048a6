-- `stl_corners::triangles_in` meets its contract. Assumes nothing.
use native.Mathlib.Omega.{arith}
use Rattle.stl_body.specs.Read.{count_in}
use Rattle.stl_corners.specs.Laws.{fit_length}
use Rattle.stl_corners.proofs.triangles_in.Goals as goal

pub word_in-requires : goal.word_in-requires
word_in-requires c = let h = fit_length c.args.bytes.now c.requires in omega arith

pub overflow_cast-result : goal.overflow_cast-result
overflow_cast-result c = omega arith

pub returns : goal.returns
unfolding count_in
returns c = c.word_in.ensures
