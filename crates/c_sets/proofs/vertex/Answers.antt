-- `c_sets::vertex` meets its contract. Assumes nothing.
use mathlib.Core.Path.{◌≡◌, sym, ◌∙◌}
use mathlib.Core.Bool.{true, false}
use borrow.Author.Tests.{not-true, not-false}
use Rattle.c_values.specs.Given.{own_known, vertex_good}
use Rattle.c_values.specs.Laws.{unknown-set}
use borrow.Author.Rules.{rules}
use Rattle.c_sets.proofs.vertex.Goals as goal

pub returns-then-not-own_known : goal.returns-then-not-own_known
unfolding vertex_good
returns-then-not-own_known c =
    let s = c in
    let h : own_known s.args.value.now ≡ false = sym c.own_known.ensures ∙ c.if-not-own_known.true in
    let e : vertex_good s.args.value.now s.args.floats.now ≡ false = rw h in
    let both = unknown-set s.args.room.now s.args.words.now s.args.reals.now 7 _ _ e c.unknown_tag.ensures _ _ _ _ in record { answer = both.0; tables = both.1.0; floats = both.1.1 }

pub returns : goal.returns
unfolding vertex_good
returns c =
    let s = c in
    let h : own_known s.args.value.now ≡ true = sym c.own_known.ensures ∙ c.if-not-own_known.false in
    rw (h, ← c.point_of-point.ensures, ← c.tolerance_of-tolerance.ensures) c.set_vertex.ensures
