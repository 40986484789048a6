-- `split_bounds::refusal` meets its contract. Assumes nothing.
use mathlib.Core.Path.{◌≡◌, sym, ◌∙◌}
use mathlib.Core.Bool.{true, false}
use borrow.Author.Tests.{not-true, not-false}
use Rattle.memory_layout.specs.Readable.{readable}
use Rattle.memory_layout.specs.Laws.{fit_of}
use Rattle.split_bounds.specs.Answers.{bounds_number}
use borrow.Author.Rules.{rules}
use Rattle.split_bounds.proofs.refusal.Goals as goal

pub returns-then-not-readable : goal.returns-then-not-readable
unfolding bounds_number
returns-then-not-readable c =
    let s = c in
    let e : readable s.args.room.now s.args.words.now s.args.reals.now ≡ false = sym c.readable.ensures ∙ c.if-not-readable.true in
    rw e

pub bounds_refusal-requires : goal.bounds_refusal-requires
bounds_refusal-requires c =
    let s = c in
    fit_of s.args.room.now s.args.words.now s.args.reals.now (sym c.readable.ensures ∙ c.if-not-readable.false)

pub returns : goal.returns
unfolding bounds_number
returns c =
    let s = c in
    let e : readable s.args.room.now s.args.words.now s.args.reals.now ≡ true = sym c.readable.ensures ∙ c.if-not-readable.false in
    rw e c.bounds_refusal.ensures
