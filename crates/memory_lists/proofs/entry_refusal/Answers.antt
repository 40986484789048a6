-- `memory_lists::entry_refusal` meets its contract: each way out is the first test that fails. Assumes nothing.
use Prim.Native.Nat.{ℕ}
use mathlib.Core.Path.{◌≡◌, sym, ap, ◌∙◌}
use mathlib.Core.Bool.{true, false}
use mathlib.Core.List.{List}
use native.Mathlib.Omega.{arith}
use borrow.Author.Tests.{not-true, not-false, lt-ltb, le-ltb}
use lib.Dec.{ltb}
use lib.ListN.{length}
use Rattle.memory_layout.specs.Layout.{word_strides, word}
use Rattle.memory_layout.specs.Readable.{readable}
use Rattle.memory_layout.specs.Entries.{list_tables, list_of, entry_refusal}
use Rattle.memory_layout.specs.Laws.{before-tables, list-table, fit_of, lists_of}
use borrow.Author.Rules.{rules}
use Rattle.memory_lists.proofs.entry_refusal.Goals as goal

pub returns-then-not-readable : goal.returns-then-not-readable
unfolding entry_refusal
returns-then-not-readable c =
    let s = c in
    let r = s.args.room.now in
    let w = s.args.words.now in
    let x = s.args.reals.now in
    let j = s.args.j in
    let i = s.args.i in
    let e : readable r w x ≡ false = sym c.readable.ensures ∙ c.if-not-readable.true in
    rw e

pub returns-then-j-ge8 : goal.returns-then-j-ge8
unfolding entry_refusal
returns-then-j-ge8 c =
    let s = c in
    let r = s.args.room.now in
    let w = s.args.words.now in
    let x = s.args.reals.now in
    let j = s.args.j in
    let i = s.args.i in
    let e : readable r w x ≡ true = sym c.readable.ensures ∙ c.if-not-readable.false in
    let f : ltb j 8 ≡ false = le-ltb j 8 c.if-j-ge8.true in
    rw (e, f)

pub offset_bounds-words-j : goal.offset_bounds-words-j
offset_bounds-words-j c =
    let t = list-table c.args.j c.if-j-ge8.false in
    record { fits = omega arith }

pub bounds-words-j : goal.bounds-words-j
bounds-words-j c =
    let s = c in
    let r = s.args.room.now in
    let w = s.args.words.now in
    let x = s.args.reals.now in
    let j = s.args.j in
    let i = s.args.i in
    let e : readable r w x ≡ true = sym c.readable.ensures ∙ c.if-not-readable.false in
    let t = list-table j c.if-j-ge8.false in
    let z = (fit_of r w x e).sized.words in
    let f = before-tables 11 word_strides r 10 in
    omega arith

pub overflow_cast-words : goal.overflow_cast-words
overflow_cast-words c =
    omega (arith, c.type_inv.words (word list_tables c.args.j))

pub returns-then-words-j : goal.returns-then-words-j
unfolding entry_refusal
returns-then-words-j c =
    let s = c in
    let r = s.args.room.now in
    let w = s.args.words.now in
    let x = s.args.reals.now in
    let j = s.args.j in
    let i = s.args.i in
    let e : readable r w x ≡ true = sym c.readable.ensures ∙ c.if-not-readable.false in
    let f : ltb j 8 ≡ true = lt-ltb j 8 c.if-j-ge8.false in
    let g : ltb i (word w (word list_tables j)) ≡ false = le-ltb i (word w (word list_tables j)) c.if-words-j.true in
    rw (e, f, g)

pub list-requires : goal.list-requires
list-requires c =
    let s = c in
    let r = s.args.room.now in
    let w = s.args.words.now in
    let x = s.args.reals.now in
    let j = s.args.j in
    let i = s.args.i in
    let e : readable r w x ≡ true = sym c.readable.ensures ∙ c.if-not-readable.false in
    record { lists = lists_of r w x (fit_of r w x e); j_bound = (c.if-j-ge8.false, c.if-words-j.false) }

pub returns-then-list-place : goal.returns-then-list-place
unfolding entry_refusal
returns-then-list-place c =
    let s = c in
    let r = s.args.room.now in
    let w = s.args.words.now in
    let x = s.args.reals.now in
    let j = s.args.j in
    let i = s.args.i in
    let e : readable r w x ≡ true = sym c.readable.ensures ∙ c.if-not-readable.false in
    let f : ltb j 8 ≡ true = lt-ltb j 8 c.if-j-ge8.false in
    let g : ltb i (word w (word list_tables j)) ≡ true = lt-ltb i (word w (word list_tables j)) c.if-words-j.false in
    let h : ltb s.args.place (length (list_of r w j i)) ≡ false = le-ltb s.args.place (length (list_of r w j i)) (rw c.list.ensures at c.if-list-place.true) in
    rw (e, f, g, h)

pub returns : goal.returns
unfolding entry_refusal
returns c =
    let s = c in
    let r = s.args.room.now in
    let w = s.args.words.now in
    let x = s.args.reals.now in
    let j = s.args.j in
    let i = s.args.i in
    let e : readable r w x ≡ true = sym c.readable.ensures ∙ c.if-not-readable.false in
    let f : ltb j 8 ≡ true = lt-ltb j 8 c.if-j-ge8.false in
    let g : ltb i (word w (word list_tables j)) ≡ true = lt-ltb i (word w (word list_tables j)) c.if-words-j.false in
    let h : ltb s.args.place (length (list_of r w j i)) ≡ true = lt-ltb s.args.place (length (list_of r w j i)) (rw c.list.ensures at c.if-list-place.false) in
    rw (e, f, g, h)
