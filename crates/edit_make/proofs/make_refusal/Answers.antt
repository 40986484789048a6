-- `edit_make::make_refusal` meets its contract: each way out is the first test that fails. Assumes nothing.
use mathlib.Core.Path.{◌≡◌, sym, ap₂, ◌∙◌}
use mathlib.Core.Bool.{true, false, ◌&&◌}
use borrow.Author.Tests.{not-true, not-false}
use Rattle.meaning.specs.Edits.{precision_ok}
use Rattle.memory_layout.specs.Readable.{version_ok, lent_ok}
use Rattle.edit_make.specs.Answers.{make_number}
use borrow.Author.Rules.{rules}
use Rattle.edit_make.proofs.make_refusal.Goals as goal

pub returns-then-not-lent_ok : goal.returns-then-not-lent_ok
unfolding make_number
returns-then-not-lent_ok c =
    let s = c in
    let e : lent_ok s.args.room.now s.args.words.now s.args.reals.now ≡ false = sym c.lent_ok.ensures ∙ c.if-not-lent_ok.true in
    rw e

pub returns-then-not-precision_ok-version_ok : goal.returns-then-not-precision_ok-version_ok
unfolding make_number
returns-then-not-precision_ok-version_ok c =
    let s = c in
    let e : lent_ok s.args.room.now s.args.words.now s.args.reals.now ≡ true = sym c.lent_ok.ensures ∙ c.if-not-lent_ok.false in
    let f : (precision_ok s.args.precision && version_ok s.args.version) ≡ false = ap₂ ◌&&◌ (sym c.precision_ok.ensures) (sym c.version_ok.ensures) ∙ c.if-not-precision_ok-version_ok.true in
    rw (e, f)

pub returns : goal.returns
unfolding make_number
returns c =
    let s = c in
    let e : lent_ok s.args.room.now s.args.words.now s.args.reals.now ≡ true = sym c.lent_ok.ensures ∙ c.if-not-lent_ok.false in
    let f : (precision_ok s.args.precision && version_ok s.args.version) ≡ true = ap₂ ◌&&◌ (sym c.precision_ok.ensures) (sym c.version_ok.ensures) ∙ c.if-not-precision_ok-version_ok.false in
    rw (e, f)
