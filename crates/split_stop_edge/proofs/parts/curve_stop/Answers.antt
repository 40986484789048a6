-- `split_stop_edge::parts::curve_stop` meets its contract. Assumes nothing.
use Rattle.split_stop_edge.specs.EdgeRows.{curve_told}
use Rattle.memory_records.specs.Laws.{counts-there}
use Rattle.memory_layout.specs.Decode.{decode}
use native.Mathlib.Omega.{arith}
use Rattle.split_stop_edge.proofs.parts.curve_stop.Goals as goal

pub bounds-words-8 : goal.bounds-words-8
bounds-words-8 c = let s = c in let n = counts-there s.args.room.now s.args.words.now s.args.reals.now s.requires.sized in omega arith

pub returns : goal.returns
unfolding curve_told decode
returns c = rw (c.first-2.ensures, c.first.ensures, c.of_edge.ensures, c.line_refusal-line.ensures, c.curve_found.ensures, c.of_edge-there.ensures, c.unless-2.ensures, c.on_edge-named.ensures, c.unless.ensures)
