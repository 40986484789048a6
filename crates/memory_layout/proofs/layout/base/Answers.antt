-- `memory_layout::layout::base` meets its contract: a turn of the loop is a step of the definition. Assumes nothing.
use Rattle.std.proofs.Common.{refl, add-one, arith}
use Rattle.memory_layout.specs.Layout.{base}
use Rattle.memory_layout.specs.Laws.{term-le, base-le}
use Rattle.memory_layout.proofs.layout.base.Goals as goal

pub loop-i-init : goal.loop-i-init
unfolding base
loop-i-init c = refl

pub overflow_mul-at : goal.overflow_mul-at
overflow_mul-at c =
    let s = c in
    let i = c.loop-i.i in
    let b = term-le s.args.strides.now s.args.room.now s.requires.strides s.requires.small i (omega arith) in
    record { fits = omega arith }

pub overflow_add-at : goal.overflow_add-at
overflow_add-at c =
    let s = c in
    let i = c.loop-i.i in
    let b = term-le s.args.strides.now s.args.room.now s.requires.strides s.requires.small i (omega arith) in
    let a = base-le s.args.from s.args.strides.now s.args.room.now s.requires.strides s.requires.small i (omega arith) in
    record { fits = omega arith }

pub loop-i-preserved : goal.loop-i-preserved
unfolding base
loop-i-preserved c = rw (add-one, c.loop-i.invariant)
