-- `slab_edges::grid_vertex` meets its contract. Assumes nothing.
use Rattle.memory_records.specs.Laws.{counts-there}
use borrow.Author.Tests.{lt-ltb, le-ltb}
use Rattle.meaning_slabs.specs.Slabs.{grid_vertex}
use Rattle.memory_layout.specs.Decode.{decode}
use mathlib.Core.Path.{◌≡◌, ap, ◌∙◌}
use mathlib.Core.Bool.{true, false}
use lib.Dec.{ltb}
use Rattle.memory_layout.specs.Layout.{word}
use Rattle.meaning_sheets.specs.Sheets.{grid_point}
use native.Mathlib.Omega.{arith}
use Rattle.slab_edges.proofs.grid_vertex.Goals as goal

pub bounds-words-7 : goal.bounds-words-7
bounds-words-7 c = let s = c in let n = counts-there s.args.room.now s.args.words.now s.args.reals.now s.requires.sized in omega arith

pub returns-then-words-v : goal.returns-then-words-v
unfolding grid_vertex decode
returns-then-words-v c = let s = c in let e : ltb s.args.v (word s.args.words.now 7) ≡ false = le-ltb _ _ c.if-words-v.true in rw e

pub point_at-requires : goal.point_at-requires
point_at-requires c = let s = c in record { fit = s.requires; i_bound = c.if-words-v.false }

pub returns : goal.returns
unfolding grid_vertex decode
returns c = let s = c in let e : ltb s.args.v (word s.args.words.now 7) ≡ true = lt-ltb _ _ c.if-words-v.false in rw e (c.grid_point.ensures ∙ ap grid_point c.point_at.ensures)
