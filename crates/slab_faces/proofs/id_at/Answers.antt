-- `slab_faces::id_at` meets its contract. Assumes nothing.
use Rattle.slab_faces.specs.Laws.{id-none, id-some}
use native.Mathlib.Omega.{arith}
use Rattle.slab_faces.proofs.id_at.Goals as goal

pub offset_bounds-w-at : goal.offset_bounds-w-at
offset_bounds-w-at c = omega arith

pub bounds-w-at : goal.bounds-w-at
bounds-w-at c = omega arith

pub returns-then-w-at-eq0 : goal.returns-then-w-at-eq0
returns-then-w-at-eq0 c = id-none c.args.w.now c.args.at c.if-w-at-eq0.true

pub overflow_add-result : goal.overflow_add-result
overflow_add-result c = omega arith

pub offset_bounds-w-at-2 : goal.offset_bounds-w-at-2
offset_bounds-w-at-2 c = omega arith

pub bounds-w-at-2 : goal.bounds-w-at-2
bounds-w-at-2 c = omega arith

pub returns : goal.returns
returns c = id-some c.args.w.now c.args.at c.if-w-at-eq0.false
