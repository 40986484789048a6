-- `split_stop_room::tables_stop` meets its contract. Assumes nothing.
use Rattle.split_stop_room.specs.RoomRows.{tables_told}
use Rattle.split_fins.specs.Laws.{counts-listed}
use native.Mathlib.Omega.{arith}
use Rattle.split_stop_room.proofs.tables_stop.Goals as goal

pub bounds-words-5 : goal.bounds-words-5
bounds-words-5 c = let s = c in let n = counts-listed s.args.room.now s.args.words.now s.requires.lists in omega arith

pub bounds-words-6 : goal.bounds-words-6
bounds-words-6 c = let s = c in let n = counts-listed s.args.room.now s.args.words.now s.requires.lists in omega arith

pub bounds-words-7 : goal.bounds-words-7
bounds-words-7 c = let s = c in let n = counts-listed s.args.room.now s.args.words.now s.requires.lists in omega arith

pub returns : goal.returns
unfolding tables_told
returns c = rw (c.first-3.ensures, c.first-2.ensures, c.first.ensures, c.on_edge-4.ensures, c.unless-4.ensures, c.on_edge-3.ensures, c.unless-3.ensures, c.on_edge-2.ensures, c.unless-2.ensures, c.on_edge.ensures, c.unless.ensures)
