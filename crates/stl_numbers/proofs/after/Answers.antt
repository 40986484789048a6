-- `stl_numbers::after` meets its contract. Assumes nothing.
use native.Mathlib.Omega.{arith}
use borrow.Author.Tests.{eq-eqb, ne_eqb}
use Rattle.stl_numbers.proofs.after.Goals as goal

pub overflow_sub-result : goal.overflow_sub-result
overflow_sub-result c = omega arith

pub returns-then-k-eq2 : goal.returns-then-k-eq2
returns-then-k-eq2 c = rw (eq-eqb _ _ c.if-k-eq2.true)

pub overflow_add-result : goal.overflow_add-result
overflow_add-result c = omega arith

pub returns : goal.returns
returns c = rw (ne_eqb _ _ c.if-k-eq2.false)
