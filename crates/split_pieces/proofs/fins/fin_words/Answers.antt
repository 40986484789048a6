-- `split_pieces::fins::fin_words` meets its contract. Assumes nothing.
use Rattle.std.specs.Prelude.{map}
use Rattle.std.proofs.Common.{take, set, ap, ◌∙◌, arith}
use Rattle.memory_writes.specs.Put.{over}
use Rattle.split_pieces.specs.Pieces.{fin_word, fin_words}
use Rattle.split_pieces.specs.Laws.{mapped-none, mapped-turn, mapped-all}
use Rattle.split_pieces.proofs.fins.fin_words.Goals as goal

pub loop-k-init : goal.loop-k-init
loop-k-init c = mapped-none (fin_word c.args.room.now c.args.words.now c.args.p) c.args.fins.now c.args.out.now c.requires.p_bound.1

pub fin_word-requires : goal.fin_word-requires
fin_word-requires c = record { lists = c.requires.lists; fin_bound = (c.requires.present.there c.loop-k.k (omega arith), c.requires.p_bound.0) }

pub loop-k-preserved : goal.loop-k-preserved
loop-k-preserved c =
    let k = c.loop-k.k in
    let f = fin_word c.args.room.now c.args.words.now c.args.p in
    ap (λ l. set l k c.fin_word.result) c.loop-k.invariant
    ∙ ap (set (over 0 (map f (take k c.args.fins.now)) c.args.out.now) k) c.fin_word.ensures
    ∙ mapped-turn f c.args.fins.now c.args.out.now c.requires.p_bound.1 k (omega arith)

pub returns : goal.returns
unfolding fin_words
returns c = c.loop-k.invariant ∙ mapped-all (fin_word c.args.room.now c.args.words.now c.args.p) c.args.fins.now c.args.out.now c.requires.p_bound.1 c.loop-k.k (omega arith)
