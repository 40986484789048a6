-- `split_stop_place::fins::use_stop` meets its contract. Assumes nothing.
use Rattle.split_stop_place.specs.FinRows.{use_told}
use Rattle.split_fins.specs.Laws.{counts-listed}
use Rattle.memory_records.specs.Laws.{within, words-whole}
use Rattle.memory_layout.specs.Laws.{words_inside}
use Rattle.meaning_list_laws.specs.Tests.{unless_not}
use Rattle.meaning.specs.Lists.{member}
use lib.Seq.{length-take-le}
use lib.ListN.{get_or, take}
use lib.Dec.{lit<}
use mathlib.Core.Path.{sym}
use native.Mathlib.Omega.{arith}
use Rattle.split_stop_place.proofs.fins.use_stop.Goals as goal

pub words_of-w-requires : goal.words_of-w-requires
words_of-w-requires c = let s = c in
    record { small = s.requires.lists.small; inside = words_inside s.args.room.now s.args.words.now 5 (get_or s.args.fins.now s.args.k 0) s.requires.lists (lit< tt) (s.requires.present.there s.args.k s.requires.k_in_bounds) }

pub slice_bounds-has-end : goal.slice_bounds-has-end
slice_bounds-has-end c = let s = c in
    let h = s.requires.k_in_bounds in
    sym (length-take-le s.args.k s.args.fins.now (omega arith))

pub bounds-w-1 : goal.bounds-w-1
bounds-w-1 c = let s = c in within 1 (words-whole s.args.room.now s.args.words.now c.words_of-w.result.now 5 (get_or s.args.fins.now s.args.k 0) c.words_of-w.ensures (words_inside s.args.room.now s.args.words.now 5 (get_or s.args.fins.now s.args.k 0) s.requires.lists (lit< tt) (s.requires.present.there s.args.k s.requires.k_in_bounds))) (lit< tt)

pub bounds-w-0 : goal.bounds-w-0
bounds-w-0 c = let s = c in within 0 (words-whole s.args.room.now s.args.words.now c.words_of-w.result.now 5 (get_or s.args.fins.now s.args.k 0) c.words_of-w.ensures (words_inside s.args.room.now s.args.words.now 5 (get_or s.args.fins.now s.args.k 0) s.requires.lists (lit< tt) (s.requires.present.there s.args.k s.requires.k_in_bounds))) (lit< tt)

pub bounds-words-4 : goal.bounds-words-4
bounds-words-4 c = let s = c in let n = counts-listed s.args.room.now s.args.words.now s.requires.lists in omega arith

pub bounds-w-0-2 : goal.bounds-w-0-2
bounds-w-0-2 c = let s = c in within 0 (words-whole s.args.room.now s.args.words.now c.words_of-w.result.now 5 (get_or s.args.fins.now s.args.k 0) c.words_of-w.ensures (words_inside s.args.room.now s.args.words.now 5 (get_or s.args.fins.now s.args.k 0) s.requires.lists (lit< tt) (s.requires.present.there s.args.k s.requires.k_in_bounds))) (lit< tt)

pub returns : goal.returns
unfolding use_told
returns c = let s = c in
    let b = member (get_or s.args.fins.now s.args.k 0) (take s.args.k s.args.fins.now) in
    rw (c.first-2.ensures, c.first.ensures, c.stop_at.ensures, c.of_edge-2.ensures, c.of_edge.ensures, c.unless-there.ensures, c.unless-own.ensures, c.unless-once.ensures, c.has.ensures, c.words_of-w.ensures, unless_not 1 b)
