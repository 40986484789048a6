-- `stl_numbers::corner_at` meets its contract. Assumes nothing.
use native.Mathlib.Omega.{arith}
use Rattle.stl_numbers.proofs.corner_at.Goals as goal

pub overflow_mul-k : goal.overflow_mul-k
overflow_mul-k c = omega arith

pub overflow_add-k : goal.overflow_add-k
overflow_add-k c = omega arith

pub overflow_mul-k-2 : goal.overflow_mul-k-2
overflow_mul-k-2 c = omega arith

pub overflow_add-k-2 : goal.overflow_add-k-2
overflow_add-k-2 c = omega arith

pub returns : goal.returns
returns c = c.corner_in.ensures
