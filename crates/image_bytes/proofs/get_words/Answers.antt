-- `image_bytes::get_words` meets its contract: a turn of the loop is one number more. Assumes nothing.
use Rattle.std.specs.Prelude.{◌+◌, ◌*◌, drop, set}
use Rattle.std.proofs.Common.{arith, sym, ap, ◌∙◌}
use Rattle.memory_writes.specs.Over.{over_none}
use Rattle.image_format.specs.Bytes.{number, words_in}
use Rattle.image_bytes.specs.Laws.{words_in-turn, words_in-all}
use Rattle.image_bytes.proofs.get_words.Goals as goal

pub loop-j-init : goal.loop-j-init
unfolding words_in
loop-j-init c = sym (over_none 0 c.args.w.now)

pub loop-j-preserved : goal.loop-j-preserved
loop-j-preserved c =
    let s = c.args in
    let j = c.loop-j.j in
    ap (set c.loop-j.w j) c.word_in.ensures
    ∙ ap (λ l. set l j (number 4 (drop (s.at + 4 * j) s.bytes.now))) c.loop-j.invariant
    ∙ words_in-turn s.at j s.bytes.now s.w.now (omega arith)

pub returns : goal.returns
returns c = c.loop-j.invariant ∙ words_in-all c.args.at c.loop-j.j c.args.bytes.now c.args.w.now (omega arith)
