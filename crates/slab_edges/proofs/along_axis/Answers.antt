-- `slab_edges::along_axis` meets its contract. Assumes nothing.
use Rattle.memory_records.specs.Laws.{words-whole, counts-there}
use Rattle.memory_layout.specs.Laws.{used-inside}
use mathlib.Core.Path.{◌≡◌}
use lib.ListN.{length}
use Rattle.slab_edges.specs.Laws.{ends-missing, start-there, end-there, ends-compared}
use borrow.Author.Rules.{rules}
use native.Mathlib.Omega.{arith}
use Rattle.slab_edges.proofs.along_axis.Goals as goal

pub words_of-w-requires : goal.words_of-w-requires
words_of-w-requires c = let s = c in record { small = s.requires.fit.sized.small; inside = (used-inside s.args.room.now s.args.words.now s.args.reals.now 6 s.args.e s.requires.fit.sized (search rules) s.requires.e_bound).0 }

pub bounds-words-7 : goal.bounds-words-7
bounds-words-7 c = let s = c in let n = counts-there s.args.room.now s.args.words.now s.args.reals.now s.requires.fit.sized in omega arith

pub stands-requires : goal.stands-requires
stands-requires c = let s = c in (words-whole s.args.room.now s.args.words.now c.words_of-w.result.now 6 s.args.e c.words_of-w.ensures (used-inside s.args.room.now s.args.words.now s.args.reals.now 6 s.args.e s.requires.fit.sized (search rules) s.requires.e_bound).0, omega arith)

pub stands-requires-2 : goal.stands-requires-2
stands-requires-2 c = let s = c in (words-whole s.args.room.now s.args.words.now c.words_of-w.result.now 6 s.args.e c.words_of-w.ensures (used-inside s.args.room.now s.args.words.now s.args.reals.now 6 s.args.e s.requires.fit.sized (search rules) s.requires.e_bound).0, omega arith)

pub returns-then-not-stands : goal.returns-then-not-stands
returns-then-not-stands c = let s = c in ends-missing s.args.room.now s.args.words.now s.args.reals.now s.args.e _ _ _ c.words_of-w.ensures c.stands.ensures c.stands-2.ensures (c.if-not-stands.true)

pub bounds-w-1 : goal.bounds-w-1
bounds-w-1 c = let s = c in let n : length c.words_of-w.result.now ≡ 16 = words-whole s.args.room.now s.args.words.now c.words_of-w.result.now 6 s.args.e c.words_of-w.ensures (used-inside s.args.room.now s.args.words.now s.args.reals.now 6 s.args.e s.requires.fit.sized (search rules) s.requires.e_bound).0 in omega arith

pub point_at-p-requires : goal.point_at-p-requires
point_at-p-requires c = let s = c in record { fit = s.requires.fit; i_bound = start-there s.args.room.now s.args.words.now s.args.reals.now s.args.e _ _ _ c.words_of-w.ensures c.stands.ensures c.stands-2.ensures (c.if-not-stands.false) }

pub bounds-w-3 : goal.bounds-w-3
bounds-w-3 c = let s = c in let n : length c.words_of-w.result.now ≡ 16 = words-whole s.args.room.now s.args.words.now c.words_of-w.result.now 6 s.args.e c.words_of-w.ensures (used-inside s.args.room.now s.args.words.now s.args.reals.now 6 s.args.e s.requires.fit.sized (search rules) s.requires.e_bound).0 in omega arith

pub point_at-q-requires : goal.point_at-q-requires
point_at-q-requires c = let s = c in record { fit = s.requires.fit; i_bound = end-there s.args.room.now s.args.words.now s.args.reals.now s.args.e _ _ _ c.words_of-w.ensures c.stands.ensures c.stands-2.ensures (c.if-not-stands.false) }

pub returns : goal.returns
returns c = let s = c in ends-compared s.args.room.now s.args.words.now s.args.reals.now s.args.e _ _ _ c.words_of-w.ensures c.stands.ensures c.stands-2.ensures (c.if-not-stands.false) _ _ _ c.point_at-p.ensures c.point_at-q.ensures c.differing.ensures
