-- `memory_layout::layout::record_at` meets its contract. Assumes nothing.
use native.Mathlib.Omega.{arith}
use Rattle.memory_layout.specs.Laws.{stride-le, base-le}
use Rattle.memory_layout.proofs.layout.record_at.Goals as goal

pub overflow_mul-result : goal.overflow_mul-result
overflow_mul-result c =
    let s = c in
    let st = s.args.strides.now in
    let m = stride-le st s.requires.strides s.args.k s.args.i (omega arith) (omega arith) in
    record { fits = omega arith }

pub overflow_add-result : goal.overflow_add-result
overflow_add-result c =
    let s = c in
    let st = s.args.strides.now in
    let m = stride-le st s.requires.strides s.args.k s.args.i (omega arith) (omega arith) in
    let a = base-le s.args.from st s.args.room.now s.requires.strides s.requires.small s.args.k (omega arith) in
    record { fits = omega arith }

pub returns : goal.returns
returns c = rw c.base.ensures
