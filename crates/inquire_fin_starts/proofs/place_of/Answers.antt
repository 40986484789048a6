-- `inquire_fin_starts::place_of` meets its contract. Assumes nothing.
use native.Mathlib.Omega.{arith}
use mathlib.Core.Path.{ap, ◌∙◌}
use lib.ListN.{length}
use Rattle.memory_layout.specs.Layout.{word}
use Rattle.memory_layout.specs.Laws.{words_inside}
use Rattle.memory_layout.proofs.Laws.{words-length}
use Rattle.inquire_fin_starts.specs.Starts.{start_place}
use Rattle.inquire_fin_starts.proofs.place_of.Goals as goal

pub words_of-fin-requires : goal.words_of-fin-requires
words_of-fin-requires c =
    let s = c in
    record { small = s.requires.lists.small; inside = (words_inside s.args.room.now s.args.words.now 5 s.args.i s.requires.lists (omega arith) s.requires.whole.fin) }

pub bounds-fin-2 : goal.bounds-fin-2
bounds-fin-2 c =
    let s = c in
    omega (arith, ap length c.words_of-fin.ensures, words-length s.args.room.now s.args.words.now 5 s.args.i (words_inside s.args.room.now s.args.words.now 5 s.args.i s.requires.lists (omega arith) s.requires.whole.fin))

pub returns : goal.returns
returns c = (c.start_place.ensures.0 ∙ ap (λ l. start_place (word l 2)) c.words_of-fin.ensures, c.start_place.ensures.1)
