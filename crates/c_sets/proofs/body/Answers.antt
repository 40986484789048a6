-- `c_sets::body` meets its contract. Assumes nothing.
use mathlib.Core.Path.{◌≡◌, sym, ◌∙◌}
use mathlib.Core.Bool.{true, false}
use borrow.Author.Tests.{not-true, not-false}
use Rattle.c_values.specs.Given.{body_known, body_in}
use Rattle.c_values.specs.Laws.{unknown-set}
use borrow.Author.Rules.{rules}
use Rattle.c_sets.proofs.body.Goals as goal

pub returns-then-not-body_known : goal.returns-then-not-body_known
returns-then-not-body_known c =
    let s = c in
    let e : body_known s.args.value.now ≡ false = sym c.body_known.ensures ∙ c.if-not-body_known.true in
    let g : body_in s.args.office s.args.value.now ≡ false = rw e in
    let both = unknown-set s.args.room.now s.args.words.now s.args.reals.now 0 _ _ g c.unknown_tag.ensures _ _ _ _ in record { answer = both.0; tables = both.1.0; floats = both.1.1 }

pub returns : goal.returns
returns c =
    let s = c in
    let h : body_known s.args.value.now ≡ true = sym c.body_known.ensures ∙ c.if-not-body_known.false in
    rw (h, ← c.kind_of-kind.ensures) c.set_body.ensures
