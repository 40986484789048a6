-- `image_bytes::bits_in` meets its contract: eight bytes are two words. Assumes nothing.
use native.Mathlib.Omega.{arith}
use Rattle.image_bytes.specs.Laws.{number-eight}
use Rattle.image_bytes.proofs.bits_in.Goals as goal

pub overflow_cast-low : goal.overflow_cast-low
overflow_cast-low c = omega arith

pub overflow_add-at : goal.overflow_add-at
overflow_add-at c = omega arith

pub overflow_cast-high : goal.overflow_cast-high
overflow_cast-high c = omega arith

pub overflow_mul-result : goal.overflow_mul-result
overflow_mul-result c = omega arith

pub overflow_add-result : goal.overflow_add-result
overflow_add-result c = omega arith

pub returns : goal.returns
returns c =
    let s = c in
    let e = number-eight s.args.at s.args.bytes.now in
    let f = c.word_in-low.ensures in
    let g = c.word_in-high.ensures in
    omega arith
