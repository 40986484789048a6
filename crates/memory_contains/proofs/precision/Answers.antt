-- `memory_contains::precision` meets its contract. Assumes nothing.
use mathlib.Core.Path.{◌≡◌, sym, ◌∙◌}
use mathlib.Core.Bool.{true, false}
use native.Mathlib.Omega.{arith}
use borrow.Author.Tests.{not-true, not-false}
use Rattle.memory_layout.specs.Readable.{readable}
use Rattle.memory_layout.specs.Laws.{fit_of, precision-there}
use Rattle.memory_layout.specs.Decode.{decode}
use Rattle.memory_contains.specs.Answers.{precision_answer}
use borrow.Author.Rules.{rules}
use Rattle.memory_contains.proofs.precision.Goals as goal

pub returns-then-not-readable : goal.returns-then-not-readable
unfolding precision_answer
returns-then-not-readable c =
    let s = c in
    let e : readable s.args.room.now s.args.words.now s.args.reals.now ≡ false = sym c.readable.ensures ∙ c.if-not-readable.true in
    rw e

pub bounds-reals-0 : goal.bounds-reals-0
bounds-reals-0 c =
    let s = c in
    let e : readable s.args.room.now s.args.words.now s.args.reals.now ≡ true = sym c.readable.ensures ∙ c.if-not-readable.false in
    let n = precision-there s.args.room.now s.args.words.now s.args.reals.now (fit_of s.args.room.now s.args.words.now s.args.reals.now e).sized in
    omega arith

pub returns : goal.returns
unfolding decode precision_answer
returns c =
    let s = c in
    let e : readable s.args.room.now s.args.words.now s.args.reals.now ≡ true = sym c.readable.ensures ∙ c.if-not-readable.false in
    rw e
