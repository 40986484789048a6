-- `edit_core::edit_refusal` meets its contract: each way out is the first test that fails. Assumes nothing.
use native.Mathlib.Omega.{arith}
use mathlib.Core.Path.{◌≡◌, sym, ◌∙◌}
use mathlib.Core.Bool.{true, false}
use lib.Dec.{ltb}
use borrow.Author.Tests.{not-true, not-false, lt-ltb, le-ltb}
use Rattle.memory_layout.specs.Layout.{word_strides, word}
use Rattle.memory_layout.specs.Readable.{readable}
use Rattle.memory_layout.specs.Laws.{before-tables, fit_of}
use Rattle.edit_core.specs.Answers.{edit_number}
use borrow.Author.Rules.{rules}
use Rattle.edit_core.proofs.edit_refusal.Goals as goal

pub returns-then-not-readable : goal.returns-then-not-readable
unfolding edit_number
returns-then-not-readable c =
    let s = c in
    let room = s.args.room.now in
    let w = s.args.words.now in
    let x = s.args.reals.now in
    let k = s.args.k in
    let i = s.args.i in
    let e : readable room w x ≡ false = sym c.readable.ensures ∙ c.if-not-readable.true in
    rw e

pub returns-then-not-ok : goal.returns-then-not-ok
unfolding edit_number
returns-then-not-ok c =
    let s = c in
    let room = s.args.room.now in
    let w = s.args.words.now in
    let x = s.args.reals.now in
    let k = s.args.k in
    let i = s.args.i in
    let e : readable room w x ≡ true = sym c.readable.ensures ∙ c.if-not-readable.false in
    let f : s.args.ok ≡ false = c.if-not-ok.true in
    rw (e, f)

pub bounds-words-k : goal.bounds-words-k
bounds-words-k c =
    let s = c in
    let room = s.args.room.now in
    let w = s.args.words.now in
    let x = s.args.reals.now in
    let k = s.args.k in
    let i = s.args.i in
    let e : readable room w x ≡ true = sym c.readable.ensures ∙ c.if-not-readable.false in
    let z = (fit_of room w x e).sized.words in
    let b = before-tables 11 word_strides room 10 in
    omega (arith, s.requires)

pub returns-then-words-k : goal.returns-then-words-k
unfolding edit_number
returns-then-words-k c =
    let s = c in
    let room = s.args.room.now in
    let w = s.args.words.now in
    let x = s.args.reals.now in
    let k = s.args.k in
    let i = s.args.i in
    let e : readable room w x ≡ true = sym c.readable.ensures ∙ c.if-not-readable.false in
    let f : s.args.ok ≡ true = c.if-not-ok.false in
    let g : ltb i (word w k) ≡ false = le-ltb _ _ c.if-words-k.true in
    rw (e, f, g)

pub returns : goal.returns
unfolding edit_number
returns c =
    let s = c in
    let room = s.args.room.now in
    let w = s.args.words.now in
    let x = s.args.reals.now in
    let k = s.args.k in
    let i = s.args.i in
    let e : readable room w x ≡ true = sym c.readable.ensures ∙ c.if-not-readable.false in
    let f : s.args.ok ≡ true = c.if-not-ok.false in
    let g : ltb i (word w k) ≡ true = lt-ltb _ _ c.if-words-k.false in
    rw (e, f, g)
