-- `image_bytes::put_words` meets its contract: a turn of the loop is one number more. Assumes nothing.
use Rattle.std.specs.Prelude.{◌+◌, ◌*◌, get_or}
use Rattle.std.proofs.Common.{arith, sym, ap, ◌∙◌}
use Rattle.meaning.specs.Lists.{joined}
use Rattle.memory_writes.specs.Put.{over}
use Rattle.memory_writes.specs.Over.{over_none}
use Rattle.image_format.specs.Bytes.{little}
use Rattle.image_bytes.specs.Laws.{words-turn}
use Rattle.image_bytes.proofs.put_words.Goals as goal

pub loop-j-init : goal.loop-j-init
unfolding joined
loop-j-init c = sym (over_none c.args.at c.args.bytes.now)

pub loop-j-preserved : goal.loop-j-preserved
loop-j-preserved c =
    let s = c.args in
    let j = c.loop-j.j in
    c.put_word.ensures
    ∙ ap (over (s.at + 4 * j) (little 4 (get_or s.a.now j 0))) c.loop-j.invariant
    ∙ words-turn s.at j s.a.now s.bytes.now (omega arith) (omega arith)
