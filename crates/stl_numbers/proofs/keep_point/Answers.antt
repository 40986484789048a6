-- `stl_numbers::keep_point` meets its contract: three stores behind the others, or none. Assumes nothing.
use Prim.Native.Nat.{◌*◌}
use native.Mathlib.Omega.{arith}
use mathlib.Core.Path.{◌≡◌}
use mathlib.Core.Bool.{true, false}
use borrow.Author.Tests.{lt-ltb, le-ltb}
use lib.Dec.{ltb}
use lib.ListN.{length-set}
use Rattle.stl_body.specs.Flat.{flat_points}
use Rattle.stl_numbers.specs.Corners.{three-stores}
use Rattle.stl_numbers.proofs.keep_point.Goals as goal

pub returns-then-at-many : goal.returns-then-at-many
returns-then-at-many c =
    let s = c.args in
    let old : ltb s.at s.many ≡ true = lt-ltb s.at s.many c.if-at-many.true in
    record { value = rw old; points_after = rw old }

pub overflow_mul-points : goal.overflow_mul-points
overflow_mul-points c = omega arith

pub offset_bounds-points-many : goal.offset_bounds-points-many
offset_bounds-points-many c = omega arith

pub bounds-points-many : goal.bounds-points-many
bounds-points-many c = omega arith

pub overflow_mul-points-2 : goal.overflow_mul-points-2
overflow_mul-points-2 c = omega arith

pub overflow_add-points : goal.overflow_add-points
overflow_add-points c = omega arith

pub offset_bounds-points-many-2 : goal.offset_bounds-points-many-2
offset_bounds-points-many-2 c = omega arith

pub bounds-points-many-2 : goal.bounds-points-many-2
bounds-points-many-2 c = simp length-set (omega arith)

pub overflow_mul-points-3 : goal.overflow_mul-points-3
overflow_mul-points-3 c = omega arith

pub overflow_add-points-2 : goal.overflow_add-points-2
overflow_add-points-2 c = omega arith

pub offset_bounds-points-many-3 : goal.offset_bounds-points-many-3
offset_bounds-points-many-3 c = omega arith

pub bounds-points-many-3 : goal.bounds-points-many-3
bounds-points-many-3 c = simp length-set (omega arith)

pub overflow_add-result : goal.overflow_add-result
overflow_add-result c = omega arith

pub returns : goal.returns
unfolding flat_points
returns c =
    let s = c.args in
    let new : ltb s.at s.many ≡ false = le-ltb s.at s.many (omega arith) in
    record { value = rw new; points_after = rw new (three-stores s.points.now (3 * s.many) s.p.x s.p.y s.p.z (omega arith)) }
