-- `walk_sources::record_followed` meets its contract. Assumes nothing.
use mathlib.Core.Path.{◌≡◌, ap, ◌∙◌}
use native.Mathlib.Omega.{arith}
use borrow.Author.Tests.{le-ltb, lt-ltb}
use mathlib.Core.Bool.{false, true}
use lib.Dec.{ltb}
use Rattle.memory_layout.specs.Layout.{word}
use Rattle.memory_layout.specs.Entries.{list_tables}
use Rattle.meaning.specs.Lists.{all}
use Rattle.memory_layout.specs.Laws.{list-table}
use Rattle.walk_sources.specs.Sources.{entry_tables, followed}
use Rattle.walk_sources.specs.Laws.{used-words, entry-table}
use Rattle.walk_sources.proofs.record_followed.Goals as goal

pub offset_bounds-words-j : goal.offset_bounds-words-j
offset_bounds-words-j c =
    let t = list-table c.args.j c.requires.j_bound in
    record { fits = omega arith }

pub bounds-words-j : goal.bounds-words-j
bounds-words-j c =
    let s = c in
    used-words s.args.room.now s.args.words.now (word list_tables s.args.j) s.requires.lists (list-table s.args.j s.requires.j_bound)

pub overflow_cast-words : goal.overflow_cast-words
overflow_cast-words c = omega (arith, c.type_inv.words (word list_tables c.args.j))

pub returns-then-words-j : goal.returns-then-words-j
unfolding followed
returns-then-words-j c =
    let s = c in
    let e : ltb s.args.i (word s.args.words.now (word list_tables s.args.j)) ≡ false = le-ltb s.args.i (word s.args.words.now (word list_tables s.args.j)) c.if-words-j.true in
    rw e

pub offset_bounds-words-j-2 : goal.offset_bounds-words-j-2
offset_bounds-words-j-2 c =
    let t = entry-table c.args.j c.requires.j_bound in
    record { fits = omega arith }

pub bounds-words-j-2 : goal.bounds-words-j-2
bounds-words-j-2 c =
    let s = c in
    used-words s.args.room.now s.args.words.now (word entry_tables s.args.j) s.requires.lists (entry-table s.args.j s.requires.j_bound)

pub returns : goal.returns
unfolding followed
returns c =
    let s = c in
    let e : ltb s.args.i (word s.args.words.now (word list_tables s.args.j)) ≡ true = lt-ltb s.args.i (word s.args.words.now (word list_tables s.args.j)) c.if-words-j.false in
    rw e (c.all_below.ensures ∙ ap (all _) c.list.ensures)
