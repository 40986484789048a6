-- `stl_corners::length_fits` meets its contract: what is shorter than a count has none that fits. Assumes nothing.
use Prim.Native.Nat.{◌+◌, ◌*◌}
use native.Mathlib.Omega.{arith}
use mathlib.Core.Path.{ap}
use lib.ListN.{length}
use lib.Dec.{eqb}
use Rattle.stl_body.specs.Read.{count_in, length_fits}
use Rattle.stl_corners.specs.Laws.{too_short}
use Rattle.stl_corners.proofs.length_fits.Goals as goal

pub returns-then-bytes-lt84 : goal.returns-then-bytes-lt84
returns-then-bytes-lt84 c = too_short c.args.bytes.now c.if-bytes-lt84.true

pub overflow_cast-n : goal.overflow_cast-n
overflow_cast-n c = omega arith

pub overflow_mul-result : goal.overflow_mul-result
overflow_mul-result c = omega arith

pub overflow_add-result : goal.overflow_add-result
overflow_add-result c = omega arith

pub returns : goal.returns
unfolding length_fits count_in
returns c = ap (λ n. eqb (length c.args.bytes.now) (84 + 50 * n)) c.word_in-n.ensures
