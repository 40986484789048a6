use Rattle.split_pieces.specs.Pieces.{fin_word}
use Rattle.memory_layout.specs.Laws.{words_inside}
use Rattle.memory_layout.proofs.Laws.{words-length}
use Rattle.memory_layout.specs.Layout.{word}
use lib.ListN.{length}
use mathlib.Core.Path.{ap, ◌∙◌}
use native.Mathlib.Omega.{arith}
use Rattle.split_pieces.proofs.fins.fin_word.Goals as goal

pub words_of-w-requires : goal.words_of-w-requires
words_of-w-requires c = let s = c in record { small = s.requires.lists.small; inside = words_inside s.args.room.now s.args.words.now 5 s.args.fin s.requires.lists (omega arith) s.requires.fin_bound.0 }

pub bounds-w-p : goal.bounds-w-p
bounds-w-p c =
    let s = c in
    let n = ap length c.words_of-w.ensures ∙ words-length s.args.room.now s.args.words.now 5 s.args.fin (words_inside s.args.room.now s.args.words.now 5 s.args.fin s.requires.lists (omega arith) s.requires.fin_bound.0) in
    let p = s.requires.fin_bound.1 in
    omega arith

pub returns : goal.returns
unfolding fin_word
returns c = let s = c in ap (λ l. word l s.args.p) c.words_of-w.ensures
