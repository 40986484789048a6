-- `image_bytes::put_word` meets its contract: a word is two marks, one behind the other. Assumes nothing.
use Prim.Native.Nat.{◌+◌, ◌/◌}
use native.Mathlib.Omega.{arith}
use mathlib.Core.Path.{ap, ◌∙◌}
use Rattle.memory_writes.specs.Put.{over}
use Rattle.image_format.specs.Bytes.{little}
use Rattle.image_bytes.specs.Laws.{put_two}
use Rattle.image_bytes.proofs.put_word.Goals as goal

pub overflow_add-at : goal.overflow_add-at
overflow_add-at c = omega arith

pub returns : goal.returns
returns c =
    let s = c in
    c.put_mark-2.ensures
    ∙ ap (over (s.args.at + 2) (little 2 (s.args.word / 65536))) c.put_mark.ensures
    ∙ put_two s.args.at s.args.word s.args.bytes.now (omega arith)
