-- `split_pieces::fins::put_fins` meets its contract. Assumes nothing.
use Rattle.std.specs.Prelude.{◌≡◌, length}
use Rattle.std.proofs.Common.{refl, ap, ◌∙◌, arith}
use Rattle.memory_layout.specs.Layout.{word}
use Rattle.split_lists.specs.Pass.{put_all}
use Rattle.split_pieces.specs.Pieces.{new_fin_words, fins_put}
use Rattle.split_pieces.specs.Laws.{fin-inside, fins-turn}
use Rattle.split_pieces.proofs.fins.put_fins.Goals as goal

pub loop-k-init : goal.loop-k-init
unfolding put_all
loop-k-init c = refl

pub overflow_add-from : goal.overflow_add-from
overflow_add-from c = let f = c.requires.slots.fins in let m = c.requires.slots.most-fins in omega arith

pub put_words-requires : goal.put_words-requires
put_words-requires c = record { small = c.requires.slots.small; inside = fin-inside c.args.room.now c.args.words.now c.args.owners.now c.args.senses.now c.requires.slots c.loop-k.k (omega arith) c.loop-k.words (omega arith); a_bound = omega arith }

pub loop-k-preserved : goal.loop-k-preserved
loop-k-preserved c = c.put_words.ensures ∙ fins-turn c.args.room.now c.args.words.now c.args.owners.now c.args.senses.now c.requires.slots c.loop-k.k (omega arith) c.loop-k.words c.loop-k.invariant

pub returns : goal.returns
unfolding fins_put
returns c =
    let done : c.loop-k.k ≡ length c.args.owners.now = omega arith in
    c.loop-k.invariant ∙ ap (λ n. put_all c.args.room.now 5 (word c.args.words.now 5) (new_fin_words c.args.owners.now c.args.senses.now (word c.args.words.now 6)) n c.args.words.now) done
