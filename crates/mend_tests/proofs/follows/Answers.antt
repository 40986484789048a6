-- `mend_tests::follows` meets its contract. Assumes nothing.
use Prim.Native.Nat.{◌≤◌, ◌<◌}
use native.Mathlib.Omega.{arith}
use mathlib.Core.Path.{ap, ◌∙◌}
use lib.ListN.{length}
use borrow.Author.Tests.{eq-eqb, ne_eqb, lt-ltb, le-ltb}
use Rattle.memory_layout.specs.Layout.{word, words_of}
use Rattle.memory_layout.specs.Entries.{list_of}
use Rattle.memory_layout.specs.Laws.{version-there, words_inside}
use Rattle.memory_layout.proofs.Laws.{words-length}
use Rattle.split_foreign.specs.Status.{greatest, standing}
use Rattle.mend_tests.specs.Status.{follows}
use Rattle.mend_tests.specs.Laws.{followed-list, followed-table}
use Rattle.mend_tests.proofs.follows.Goals as goal

pub followed-requires : goal.followed-requires
followed-requires c = let s = c in let h = s.requires.k_bound.0 in omega arith

pub list-requires : goal.list-requires
list-requires c =
    let s = c in
    let h = s.requires.k_bound.0 in
    let k : s.args.k < 5 = omega arith in
    record { lists = s.requires.lists; j_bound = rw (c.followed.ensures, followed-table s.args.k k) (followed-list s.args.k k, s.requires.k_bound.1) }

pub returns-then-k-ne-FINS : goal.returns-then-k-ne-FINS
unfolding follows
returns-then-k-ne-FINS c =
    let s = c in
    rw (ne_eqb s.args.k 5 c.if-k-ne-FINS.true)
    (c.list_status.ensures ∙ ap (greatest (standing s.args.below.now)) (c.list.ensures ∙ ap (λ j. list_of s.args.room.now s.args.words.now j s.args.i) c.followed.ensures))

pub words_of-w-requires : goal.words_of-w-requires
words_of-w-requires c = let s = c in record { small = s.requires.lists.small; inside = words_inside s.args.room.now s.args.words.now 5 s.args.i s.requires.lists (omega arith) (rw c.if-k-ne-FINS.false at s.requires.k_bound.1) }

pub bounds-w-1 : goal.bounds-w-1
bounds-w-1 c =
    let s = c in
    let n = ap length c.words_of-w.ensures ∙ words-length s.args.room.now s.args.words.now 5 s.args.i (words_inside s.args.room.now s.args.words.now 5 s.args.i s.requires.lists (omega arith) (rw c.if-k-ne-FINS.false at s.requires.k_bound.1)) in
    omega arith

pub bounds-words-6 : goal.bounds-words-6
bounds-words-6 c = let s = c in let n = version-there s.args.room.now s.args.words.now s.requires.lists.words in omega arith

pub returns-then-w-words : goal.returns-then-w-words
unfolding follows
returns-then-w-words c =
    let s = c in
    let e : word (words_of s.args.room.now s.args.words.now 5 s.args.i) 1 < word s.args.words.now 6 = rw (← c.words_of-w.ensures) c.if-w-words.true in
    rw (eq-eqb s.args.k 5 c.if-k-ne-FINS.false, lt-ltb _ _ e)

pub returns : goal.returns
unfolding follows
returns c =
    let s = c in
    let e : word s.args.words.now 6 ≤ word (words_of s.args.room.now s.args.words.now 5 s.args.i) 1 = rw (← c.words_of-w.ensures) c.if-w-words.false in
    rw (eq-eqb s.args.k 5 c.if-k-ne-FINS.false, le-ltb _ _ e)
