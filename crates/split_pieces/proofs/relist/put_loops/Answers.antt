use Rattle.split_pieces.specs.Pieces.{loops_put}
use native.Mathlib.Omega.{arith}
use Rattle.split_pieces.proofs.relist.put_loops.Goals as goal

pub overflow_cast-n : goal.overflow_cast-n
overflow_cast-n c = omega (arith, c.type_inv.words 4)

pub returns : goal.returns
unfolding loops_put
returns c = c.double_lists.ensures
