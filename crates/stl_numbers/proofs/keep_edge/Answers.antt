-- `stl_numbers::keep_edge` meets its contract: two stores behind the others, or none. Assumes nothing.
use Prim.Native.Nat.{◌*◌}
use native.Mathlib.Omega.{arith}
use mathlib.Core.Path.{◌≡◌}
use mathlib.Core.Bool.{true, false}
use borrow.Author.Tests.{lt-ltb, le-ltb}
use lib.Dec.{ltb}
use lib.ListN.{length-set}
use Rattle.memory_writes.specs.Over.{two-stores}
use Rattle.stl_body.specs.Flat.{flat_steps}
use Rattle.stl_numbers.proofs.keep_edge.Goals as goal

pub returns-then-at-many : goal.returns-then-at-many
returns-then-at-many c =
    let s = c.args in
    let old : ltb s.at s.many ≡ true = lt-ltb s.at s.many c.if-at-many.true in
    record { value = rw old; ends_after = rw old }

pub overflow_mul-ends : goal.overflow_mul-ends
overflow_mul-ends c = omega arith

pub offset_bounds-ends-many : goal.offset_bounds-ends-many
offset_bounds-ends-many c = omega arith

pub bounds-ends-many : goal.bounds-ends-many
bounds-ends-many c = omega arith

pub overflow_mul-ends-2 : goal.overflow_mul-ends-2
overflow_mul-ends-2 c = omega arith

pub overflow_add-ends : goal.overflow_add-ends
overflow_add-ends c = omega arith

pub offset_bounds-ends-many-2 : goal.offset_bounds-ends-many-2
offset_bounds-ends-many-2 c = omega arith

pub bounds-ends-many-2 : goal.bounds-ends-many-2
bounds-ends-many-2 c = simp length-set (omega arith)

pub overflow_add-result : goal.overflow_add-result
overflow_add-result c = omega arith

pub returns : goal.returns
unfolding flat_steps
returns c =
    let s = c.args in
    let new : ltb s.at s.many ≡ false = le-ltb s.at s.many (omega arith) in
    record { value = rw new; ends_after = rw new (two-stores s.ends.now (2 * s.many) s.e.from s.e.to (omega arith)) }
