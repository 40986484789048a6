-- `split_stop_edge::parts::pcurve_stop` meets its contract. Assumes nothing.
use Rattle.split_stop_edge.specs.Laws.{pcurve-missing, pcurve-there}
use Rattle.split_fins.specs.Laws.{counts-listed}
use Rattle.memory_records.specs.Laws.{words-whole}
use Rattle.memory_layout.specs.Laws.{words_inside}
use lib.ListN.{length}
use lib.Dec.{lit<}
use mathlib.Core.Path.{◌≡◌, ◌∙◌}
use native.Mathlib.Omega.{arith}
use Rattle.split_stop_edge.proofs.parts.pcurve_stop.Goals as goal

pub bounds-words-5 : goal.bounds-words-5
bounds-words-5 c = let s = c in let n = counts-listed s.args.room.now s.args.words.now s.requires in omega arith

pub returns-then-words-fin : goal.returns-then-words-fin
returns-then-words-fin c = let s = c in c.of_edge.ensures ∙ pcurve-missing s.args.room.now s.args.words.now s.args.edge s.args.fin c.if-words-fin.true

pub words_of-w-requires : goal.words_of-w-requires
words_of-w-requires c = let s = c in record { small = s.requires.small; inside = words_inside s.args.room.now s.args.words.now 5 s.args.fin s.requires (lit< tt) c.if-words-fin.false }

pub bounds-w-3 : goal.bounds-w-3
bounds-w-3 c = let s = c in
    let n : length c.words_of-w.result.now ≡ 4 = words-whole s.args.room.now s.args.words.now c.words_of-w.result.now 5 s.args.fin c.words_of-w.ensures (words_inside s.args.room.now s.args.words.now 5 s.args.fin s.requires (lit< tt) c.if-words-fin.false) in
    omega arith

pub returns : goal.returns
returns c = let s = c in
    c.of_edge-2.ensures
    ∙ rw (c.unless.ensures, c.words_of-w.ensures) (pcurve-there s.args.room.now s.args.words.now s.args.edge s.args.fin c.if-words-fin.false)
