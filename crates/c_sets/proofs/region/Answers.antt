-- `c_sets::region` meets its contract. Assumes nothing.
use mathlib.Core.Path.{◌≡◌, sym, ◌∙◌}
use mathlib.Core.Bool.{true, false}
use borrow.Author.Tests.{not-true, not-false}
use Rattle.c_values.specs.Given.{region_known}
use Rattle.c_values.specs.Laws.{unknown-set}
use borrow.Author.Rules.{rules}
use Rattle.c_sets.proofs.region.Goals as goal

pub returns-then-not-region_known : goal.returns-then-not-region_known
returns-then-not-region_known c =
    let s = c in
    let e : region_known s.args.value.now ≡ false = sym c.region_known.ensures ∙ c.if-not-region_known.true in
    let both = unknown-set s.args.room.now s.args.words.now s.args.reals.now 1 _ _ e c.unknown_tag.ensures _ _ _ _ in record { answer = both.0; tables = both.1.0; floats = both.1.1 }

pub returns : goal.returns
returns c =
    let s = c in
    let h : region_known s.args.value.now ≡ true = sym c.region_known.ensures ∙ c.if-not-region_known.false in
    rw (h) c.set_region.ensures
