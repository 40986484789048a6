-- `walk_fin_ends::readable_fin` meets its contract. Assumes nothing.
use mathlib.Core.Path.{◌≡◌}
use mathlib.Core.Bool.{true, false}
use native.Mathlib.Omega.{arith}
use borrow.Author.Tests.{lt-ltb, le-ltb}
use lib.Dec.{ltb}
use Rattle.memory_layout.specs.Layout.{word_strides, word}
use Rattle.memory_layout.specs.Decode.{decode}
use Rattle.memory_layout.specs.Laws.{before-tables}
use Rattle.memory_records.specs.Seen.{seen_fin}
use borrow.Author.Rules.{rules}
use Rattle.walk_fin_ends.proofs.readable_fin.Goals as goal

pub bounds-words-5 : goal.bounds-words-5
bounds-words-5 c =
    let s = c in
    let b = before-tables 11 word_strides s.args.room.now 10 in
    omega (arith, s.requires.words)

pub overflow_cast-words : goal.overflow_cast-words
overflow_cast-words c = omega (arith, c.type_inv.words 5)

pub returns-then-words-fin : goal.returns-then-words-fin
unfolding decode
returns-then-words-fin c =
    let s = c in
    let f : ltb s.args.fin (word s.args.words.now 5) ≡ false = le-ltb _ _ c.if-words-fin.true in
    λ x. rw f

pub bounds-words-6 : goal.bounds-words-6
bounds-words-6 c =
    let s = c in
    let b = before-tables 11 word_strides s.args.room.now 10 in
    omega (arith, s.requires.words)

pub returns : goal.returns
unfolding decode seen_fin
returns c =
    let s = c in
    let f : ltb s.args.fin (word s.args.words.now 5) ≡ true = lt-ltb _ _ c.if-words-fin.false in
    λ x. rw (f, c.fin_at.ensures x)
