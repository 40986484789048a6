-- `memory_contains::refusal` meets its contract: each way out is the first test that fails. Assumes nothing.
use mathlib.Core.Path.{◌≡◌, sym, ◌∙◌}
use mathlib.Core.Bool.{true, false}
use native.Mathlib.Omega.{arith}
use borrow.Author.Tests.{not-true, not-false, lt-ltb, le-ltb}
use lib.Dec.{ltb}
use Rattle.memory_layout.specs.Layout.{word}
use Rattle.memory_layout.specs.Readable.{readable}
use Rattle.memory_layout.specs.Laws.{fit_of}
use Rattle.memory_records.specs.Laws.{counts-there}
use borrow.Author.Rules.{rules}
use Rattle.memory_contains.proofs.refusal.Goals as goal

pub returns-then-not-readable : goal.returns-then-not-readable
returns-then-not-readable c =
    let s = c in
    let e : readable s.args.room.now s.args.words.now s.args.reals.now ≡ false = sym c.readable.ensures ∙ c.if-not-readable.true in
    rw e

pub bounds-words-k : goal.bounds-words-k
bounds-words-k c =
    let s = c in
    let e : readable s.args.room.now s.args.words.now s.args.reals.now ≡ true = sym c.readable.ensures ∙ c.if-not-readable.false in
    let n = counts-there s.args.room.now s.args.words.now s.args.reals.now (fit_of s.args.room.now s.args.words.now s.args.reals.now e).sized in
    omega arith

pub overflow_cast-words : goal.overflow_cast-words
overflow_cast-words c = omega (arith, c.type_inv.words c.args.k)

pub returns-then-words-k : goal.returns-then-words-k
returns-then-words-k c =
    let s = c in
    let e : readable s.args.room.now s.args.words.now s.args.reals.now ≡ true = sym c.readable.ensures ∙ c.if-not-readable.false in
    let f : ltb s.args.id (word s.args.words.now s.args.k) ≡ false = le-ltb _ _ c.if-words-k.true in
    rw (e, f)

pub returns : goal.returns
returns c =
    let s = c in
    let e : readable s.args.room.now s.args.words.now s.args.reals.now ≡ true = sym c.readable.ensures ∙ c.if-not-readable.false in
    let f : ltb s.args.id (word s.args.words.now s.args.k) ≡ true = lt-ltb _ _ c.if-words-k.false in
    rw (e, f)
