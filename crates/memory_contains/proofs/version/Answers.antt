-- `memory_contains::version` meets its contract. Assumes nothing.
use mathlib.Core.Path.{◌≡◌, sym, ◌∙◌}
use mathlib.Core.Bool.{true, false}
use native.Mathlib.Omega.{arith}
use borrow.Author.Tests.{not-true, not-false}
use Rattle.memory_layout.specs.Readable.{readable}
use Rattle.memory_layout.specs.Laws.{fit_of, version-there}
use Rattle.memory_layout.specs.Decode.{decode}
use Rattle.memory_layout.specs.Layout.{word}
use Rattle.memory_contains.specs.Answers.{version_answer}
use Rattle.memory_contains.specs.Laws.{version-itself}
use borrow.Author.Rules.{rules}
use Rattle.memory_contains.proofs.version.Goals as goal

pub returns-then-not-readable : goal.returns-then-not-readable
unfolding version_answer
returns-then-not-readable c =
    let s = c in
    let e : readable s.args.room.now s.args.words.now s.args.reals.now ≡ false = sym c.readable.ensures ∙ c.if-not-readable.true in
    rw e

pub bounds-words-10 : goal.bounds-words-10
bounds-words-10 c =
    let s = c in
    let e : readable s.args.room.now s.args.words.now s.args.reals.now ≡ true = sym c.readable.ensures ∙ c.if-not-readable.false in
    let n = version-there s.args.room.now s.args.words.now (fit_of s.args.room.now s.args.words.now s.args.reals.now e).sized.words in
    omega arith

pub returns : goal.returns
unfolding decode version_answer
returns c =
    let s = c in
    let e : readable s.args.room.now s.args.words.now s.args.reals.now ≡ true = sym c.readable.ensures ∙ c.if-not-readable.false in
    rw (e, ← version-itself (word s.args.words.now 10) (fit_of s.args.room.now s.args.words.now s.args.reals.now e).version)
