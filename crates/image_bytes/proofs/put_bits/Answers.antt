-- `image_bytes::put_bits` meets its contract: eight bytes are two words, one behind the other. Assumes nothing.
use Prim.Native.Nat.{◌+◌, ◌/◌}
use native.Mathlib.Omega.{arith}
use mathlib.Core.Path.{ap, ◌∙◌}
use Rattle.memory_writes.specs.Put.{over}
use Rattle.image_format.specs.Bytes.{little}
use Rattle.image_bytes.specs.Laws.{put_four}
use Rattle.image_bytes.proofs.put_bits.Goals as goal

pub overflow_cast-bits : goal.overflow_cast-bits
overflow_cast-bits c = omega arith

pub overflow_add-at : goal.overflow_add-at
overflow_add-at c = omega arith

pub overflow_cast-bits-2 : goal.overflow_cast-bits-2
overflow_cast-bits-2 c = omega arith

pub returns : goal.returns
returns c =
    let s = c in
    c.put_word-2.ensures
    ∙ ap (over (s.args.at + 4) (little 4 (s.args.bits / 4294967296))) c.put_word.ensures
    ∙ put_four s.args.at s.args.bits s.args.bytes.now (omega arith)
