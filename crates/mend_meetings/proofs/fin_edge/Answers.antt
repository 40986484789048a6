-- `mend_meetings::fin_edge` meets its contract. Assumes nothing.
use native.Mathlib.Omega.{arith}
use mathlib.Core.Path.{ap, ◌∙◌}
use lib.ListN.{length}
use Rattle.memory_layout.specs.Layout.{word}
use Rattle.memory_layout.specs.Laws.{words_inside}
use Rattle.memory_layout.proofs.Laws.{words-length}
use Rattle.mend_meetings.specs.Laws.{fin-edge}
use Rattle.mend_meetings.proofs.fin_edge.Goals as goal

pub words_of-requires : goal.words_of-requires
words_of-requires c = let s = c in record { small = s.requires.lists.small; inside = words_inside _ _ _ _ s.requires.lists (omega arith) s.requires.present.slot }

pub bounds-words_of-1 : goal.bounds-words_of-1
bounds-words_of-1 c =
    let s = c in
    omega (arith, ap length c.words_of.ensures, words-length s.args.room.now s.args.words.now 5 s.args.i (words_inside _ _ _ _ s.requires.lists (omega arith) s.requires.present.slot))

pub returns : goal.returns
returns c = let s = c in ap (λ l. word l 1) c.words_of.ensures ∙ fin-edge s.args.room.now s.args.words.now s.args.i
