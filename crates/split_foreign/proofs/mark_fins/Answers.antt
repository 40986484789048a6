-- `split_foreign::mark_fins` meets its contract. Assumes nothing.
use Rattle.std.specs.Prelude.{eqb, length}
use Rattle.std.proofs.Common.{ap, ◌∙◌, arith}
use Rattle.meaning.specs.Formed.{bit}
use Rattle.memory_layout.specs.Layout.{word}
use Rattle.memory_layout.specs.Laws.{version-there, words_inside}
use Rattle.memory_layout.proofs.Laws.{words-length}
use Rattle.split_foreign.specs.Status.{fin_status}
use Rattle.split_foreign.specs.Laws.{rows_none, rows_more}
use Rattle.split_foreign.proofs.mark_fins.Goals as goal

pub bounds-words-5 : goal.bounds-words-5
bounds-words-5 c = let n = version-there c.args.room.now c.args.words.now c.requires.lists.words in omega arith

pub loop-i-init : goal.loop-i-init
loop-i-init c = rows_none _ _ _ c.requires.fresh

pub words_of-w-requires : goal.words_of-w-requires
words_of-w-requires c = record { small = c.requires.lists.small; inside = words_inside c.args.room.now c.args.words.now 5 c.loop-i.i c.requires.lists (omega arith) (omega arith) }

pub bounds-w-1 : goal.bounds-w-1
bounds-w-1 c =
    let n = ap length c.words_of-w.ensures ∙ words-length c.args.room.now c.args.words.now 5 c.loop-i.i (words_inside c.args.room.now c.args.words.now 5 c.loop-i.i c.requires.lists (omega arith) (omega arith)) in
    omega arith

pub bounds-own-i : goal.bounds-own-i
bounds-own-i c = let h = c.requires.fresh.enough in omega arith

pub loop-i-preserved : goal.loop-i-preserved
unfolding fin_status
loop-i-preserved c =
    let h = c.requires.fresh.enough in
    rows_more c.loop-i.i (fin_status c.args.room.now c.args.words.now c.args.edge) c.loop-i.own c.bit.result (omega arith)
    (c.bit.ensures ∙ ap (λ w. bit (eqb c.args.edge (word w 1))) c.words_of-w.ensures) c.loop-i.invariant
