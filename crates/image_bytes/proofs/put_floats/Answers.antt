-- `image_bytes::put_floats` meets its contract: a turn of the loop is one float more. Assumes nothing.
use Rattle.std.specs.Prelude.{◌+◌, ◌*◌, get_or}
use Rattle.std.specs.Float.{nan, binary64}
use Rattle.std.specs.Float.Ieee.{to_bits}
use Rattle.std.proofs.Common.{arith, sym, ap, ◌∙◌}
use Rattle.memory_writes.specs.Put.{over}
use Rattle.memory_writes.specs.Over.{over_none}
use Rattle.image_format.specs.Bytes.{little, floats}
use Rattle.image_bytes.specs.Laws.{floats-turn}
use Rattle.image_bytes.proofs.put_floats.Goals as goal

pub loop-j-init : goal.loop-j-init
unfolding floats
loop-j-init c = sym (over_none c.args.at c.args.bytes.now)

pub loop-j-preserved : goal.loop-j-preserved
loop-j-preserved c =
    let s = c.args in
    let j = c.loop-j.j in
    c.put_bits.ensures
    ∙ ap (λ n. over (s.at + 8 * j) (little 8 n) c.loop-j.bytes) c.bits_of.ensures
    ∙ ap (over (s.at + 8 * j) (little 8 (to_bits binary64 (get_or s.a.now j nan)))) c.loop-j.invariant
    ∙ floats-turn s.at j s.a.now s.bytes.now (omega arith) (omega arith)
