-- `stl_numbers::point_at` meets its contract. Assumes nothing.
use native.Mathlib.Omega.{arith}
use Rattle.stl_numbers.specs.Corners.{point_at}
use Rattle.stl_numbers.proofs.point_at.Goals as goal

pub overflow_mul-result : goal.overflow_mul-result
overflow_mul-result c = omega arith

pub offset_bounds-points-i : goal.offset_bounds-points-i
offset_bounds-points-i c = omega arith

pub bounds-points-i : goal.bounds-points-i
bounds-points-i c = omega arith

pub overflow_mul-result-2 : goal.overflow_mul-result-2
overflow_mul-result-2 c = omega arith

pub overflow_add-result : goal.overflow_add-result
overflow_add-result c = omega arith

pub offset_bounds-points-i-2 : goal.offset_bounds-points-i-2
offset_bounds-points-i-2 c = omega arith

pub bounds-points-i-2 : goal.bounds-points-i-2
bounds-points-i-2 c = omega arith

pub overflow_mul-result-3 : goal.overflow_mul-result-3
overflow_mul-result-3 c = omega arith

pub overflow_add-result-2 : goal.overflow_add-result-2
overflow_add-result-2 c = omega arith

pub offset_bounds-points-i-3 : goal.offset_bounds-points-i-3
offset_bounds-points-i-3 c = omega arith

pub bounds-points-i-3 : goal.bounds-points-i-3
bounds-points-i-3 c = omega arith

pub returns : goal.returns
returns c = point_at c.args.i c.args.points.now
