-- `image_bytes::mark_in` meets its contract: two bytes are read as `number 2` unfolds. Assumes nothing.
use native.Mathlib.Omega.{arith}
use Rattle.image_bytes.specs.Laws.{number-two}
use Rattle.image_bytes.proofs.mark_in.Goals as goal

pub bounds-bytes-at : goal.bounds-bytes-at
bounds-bytes-at c = omega arith

pub overflow_add-at : goal.overflow_add-at
overflow_add-at c = omega arith

pub bounds-bytes-at-2 : goal.bounds-bytes-at-2
bounds-bytes-at-2 c = omega arith

pub overflow_mul-result : goal.overflow_mul-result
overflow_mul-result c = omega arith

pub overflow_add-result : goal.overflow_add-result
overflow_add-result c = omega arith

pub returns : goal.returns
returns c =
    let s = c in
    let e = number-two s.args.at s.args.bytes.now in
    let f = c.wide-low.ensures.value in
    let g = c.wide-high.ensures.value in
    omega arith
