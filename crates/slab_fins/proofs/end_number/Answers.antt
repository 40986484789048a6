-- `slab_fins::end_number` meets its contract. Assumes nothing.
use Rattle.slab_fins.specs.Laws.{number-none, number-some}
use Prim.Native.Nat.{◌+◌}
use native.Mathlib.Omega.{arith}
use Rattle.slab_fins.proofs.end_number.Goals as goal

pub offset_bounds-edge-at : goal.offset_bounds-edge-at
offset_bounds-edge-at c = omega arith

pub bounds-edge-at : goal.bounds-edge-at
bounds-edge-at c = omega arith

pub returns-then-edge-at-eq0 : goal.returns-then-edge-at-eq0
returns-then-edge-at-eq0 c = number-none c.args.edge.now c.args.at c.if-edge-at-eq0.true

pub overflow_add-result : goal.overflow_add-result
overflow_add-result c = omega arith

pub offset_bounds-edge-at-2 : goal.offset_bounds-edge-at-2
offset_bounds-edge-at-2 c = omega arith

pub bounds-edge-at-2 : goal.bounds-edge-at-2
bounds-edge-at-2 c = omega arith

pub overflow_cast-result : goal.overflow_cast-result
overflow_cast-result c = omega (arith, c.type_inv.edge (c.args.at + 1))

pub overflow_add-result-2 : goal.overflow_add-result-2
overflow_add-result-2 c = omega (arith, c.type_inv.edge (c.args.at + 1))

pub returns : goal.returns
returns c = number-some c.args.edge.now c.args.at c.if-edge-at-eq0.false
