-- `edit_lists::append_refusal` meets its contract: each way out is the first test that fails. Assumes nothing.
use native.Mathlib.Omega.{arith}
use mathlib.Core.Path.{◌≡◌, sym, ◌∙◌}
use mathlib.Core.Bool.{true, false}
use lib.Dec.{ltb}
use lib.ListN.{length}
use borrow.Author.Tests.{lt-ltb, le-ltb}
use Rattle.memory_layout.specs.Layout.{word_strides, word}
use Rattle.memory_layout.specs.Readable.{readable}
use Rattle.memory_layout.specs.Entries.{list_tables, list_limits, list_of}
use Rattle.memory_layout.specs.Laws.{before-tables, list-table, fit_of, lists_of}
use Rattle.edit_lists.specs.Answers.{append_number}
use Rattle.edit_lists.proofs.append_refusal.Goals as goal

pub returns-then-not-readable : goal.returns-then-not-readable
unfolding append_number
returns-then-not-readable c =
    let s = c in
    let room = s.args.room.now in
    let w = s.args.words.now in
    let x = s.args.reals.now in
    let j = s.args.j in
    let i = s.args.i in
    let e : readable room w x ≡ false = sym c.readable.ensures ∙ c.if-not-readable.true in
    rw e

pub returns-then-j-ge8 : goal.returns-then-j-ge8
unfolding append_number
returns-then-j-ge8 c =
    let s = c in
    let room = s.args.room.now in
    let w = s.args.words.now in
    let x = s.args.reals.now in
    let j = s.args.j in
    let i = s.args.i in
    let e : readable room w x ≡ true = sym c.readable.ensures ∙ c.if-not-readable.false in
    let f : ltb j 8 ≡ false = le-ltb j 8 c.if-j-ge8.true in
    rw (e, f)

pub offset_bounds-words-list_table : goal.offset_bounds-words-list_table
offset_bounds-words-list_table c = let t = list-table c.args.j c.if-j-ge8.false in let e = c.list_table.ensures in record { fits = omega arith }

pub bounds-words-list_table : goal.bounds-words-list_table
bounds-words-list_table c =
    let s = c in
    let room = s.args.room.now in
    let w = s.args.words.now in
    let x = s.args.reals.now in
    let j = s.args.j in
    let i = s.args.i in
    let e : readable room w x ≡ true = sym c.readable.ensures ∙ c.if-not-readable.false in
    let t = list-table j c.if-j-ge8.false in
    let z = (fit_of room w x e).sized.words in
    let b = before-tables 11 word_strides room 10 in
    let q = c.list_table.ensures in
    omega arith

pub overflow_cast-words : goal.overflow_cast-words
overflow_cast-words c = omega (arith, c.type_inv.words c.list_table.result)

pub returns-then-words-list_table : goal.returns-then-words-list_table
unfolding append_number
returns-then-words-list_table c =
    let s = c in
    let room = s.args.room.now in
    let w = s.args.words.now in
    let x = s.args.reals.now in
    let j = s.args.j in
    let i = s.args.i in
    let e : readable room w x ≡ true = sym c.readable.ensures ∙ c.if-not-readable.false in
    let f : ltb j 8 ≡ true = lt-ltb j 8 c.if-j-ge8.false in
    let g : ltb i (word w (word list_tables j)) ≡ false = le-ltb _ _ (rw c.list_table.ensures at c.if-words-list_table.true) in
    rw (e, f, g)

pub list-requires : goal.list-requires
list-requires c =
    let s = c in
    let room = s.args.room.now in
    let w = s.args.words.now in
    let x = s.args.reals.now in
    let j = s.args.j in
    let i = s.args.i in
    let e : readable room w x ≡ true = sym c.readable.ensures ∙ c.if-not-readable.false in
    record { lists = lists_of room w x (fit_of room w x e); j_bound = (c.if-j-ge8.false, rw c.list_table.ensures at c.if-words-list_table.false) }

pub returns-then-list_limit-list : goal.returns-then-list_limit-list
unfolding append_number
returns-then-list_limit-list c =
    let s = c in
    let room = s.args.room.now in
    let w = s.args.words.now in
    let x = s.args.reals.now in
    let j = s.args.j in
    let i = s.args.i in
    let e : readable room w x ≡ true = sym c.readable.ensures ∙ c.if-not-readable.false in
    let f : ltb j 8 ≡ true = lt-ltb j 8 c.if-j-ge8.false in
    let g : ltb i (word w (word list_tables j)) ≡ true = lt-ltb _ _ (rw c.list_table.ensures at c.if-words-list_table.false) in
    let h : ltb (length (list_of room w j i)) (word list_limits j) ≡ false = le-ltb _ _ (rw (c.list.ensures, c.list_limit.ensures) at c.if-list_limit-list.true) in
    rw (e, f, g, h)

pub returns : goal.returns
unfolding append_number
returns c =
    let s = c in
    let room = s.args.room.now in
    let w = s.args.words.now in
    let x = s.args.reals.now in
    let j = s.args.j in
    let i = s.args.i in
    let e : readable room w x ≡ true = sym c.readable.ensures ∙ c.if-not-readable.false in
    let f : ltb j 8 ≡ true = lt-ltb j 8 c.if-j-ge8.false in
    let g : ltb i (word w (word list_tables j)) ≡ true = lt-ltb _ _ (rw c.list_table.ensures at c.if-words-list_table.false) in
    let h : ltb (length (list_of room w j i)) (word list_limits j) ≡ true = lt-ltb _ _ (rw (c.list.ensures, c.list_limit.ensures) at c.if-list_limit-list.false) in
    rw (e, f, g, h)
