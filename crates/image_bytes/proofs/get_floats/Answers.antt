-- `image_bytes::get_floats` meets its contract: a turn of the loop is one float more. Assumes nothing.
use Rattle.std.specs.Prelude.{◌+◌, ◌*◌, drop, set}
use Rattle.std.specs.Float.{binary64}
use Rattle.std.specs.Float.Ieee.{of_bits}
use Rattle.std.proofs.Common.{arith, sym, ap, ◌∙◌}
use Rattle.memory_writes.specs.Over.{over_none}
use Rattle.image_format.specs.Bytes.{number, floats_in}
use Rattle.image_bytes.specs.Laws.{floats_in-turn, floats_in-all}
use Rattle.image_bytes.proofs.get_floats.Goals as goal

pub loop-j-init : goal.loop-j-init
unfolding floats_in
loop-j-init c = sym (over_none 0 c.args.x.now)

pub loop-j-preserved : goal.loop-j-preserved
loop-j-preserved c =
    let s = c.args in
    let j = c.loop-j.j in
    ap (set c.loop-j.x j) (c.float_of.ensures ∙ ap (of_bits binary64) c.bits_in.ensures)
    ∙ ap (λ l. set l j (of_bits binary64 (number 8 (drop (s.at + 8 * j) s.bytes.now)))) c.loop-j.invariant
    ∙ floats_in-turn s.at j s.bytes.now s.x.now (omega arith)

pub returns : goal.returns
returns c = c.loop-j.invariant ∙ floats_in-all c.args.at c.loop-j.j c.args.bytes.now c.args.x.now (omega arith)
