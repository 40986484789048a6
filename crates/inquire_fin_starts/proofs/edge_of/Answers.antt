-- `inquire_fin_starts::edge_of` meets its contract. Assumes nothing.
use native.Mathlib.Omega.{arith}
use mathlib.Core.Path.{ap, ◌∙◌}
use lib.ListN.{length}
use Rattle.memory_layout.specs.Layout.{word, words_of}
use Rattle.memory_layout.specs.Laws.{words_inside}
use Rattle.memory_layout.proofs.Laws.{words-length}
use Rattle.walk_sources.specs.Sources.{fin_edge}
use Rattle.inquire_fin_starts.proofs.edge_of.Goals as goal

pub words_of-fin-requires : goal.words_of-fin-requires
words_of-fin-requires c =
    let s = c in
    record { small = s.requires.lists.small; inside = (words_inside s.args.room.now s.args.words.now 5 s.args.i s.requires.lists (omega arith) s.requires.whole.fin) }

pub bounds-fin-1 : goal.bounds-fin-1
bounds-fin-1 c =
    let s = c in
    omega (arith, ap length c.words_of-fin.ensures, words-length s.args.room.now s.args.words.now 5 s.args.i (words_inside s.args.room.now s.args.words.now 5 s.args.i s.requires.lists (omega arith) s.requires.whole.fin))

pub words_of-requires : goal.words_of-requires
words_of-requires c =
    let s = c in
    rw c.words_of-fin.ensures record { small = s.requires.lists.small; inside = (words_inside s.args.room.now s.args.words.now 6 (fin_edge s.args.room.now s.args.words.now s.args.i) s.requires.lists (omega arith) s.requires.whole.edge) }

pub returns : goal.returns
returns c =
    let s = c in
    c.words_of.ensures ∙ ap (λ l. words_of s.args.room.now s.args.words.now 6 (word l 1)) c.words_of-fin.ensures
