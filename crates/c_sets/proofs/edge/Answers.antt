-- `c_sets::edge` meets its contract. Assumes nothing.
use mathlib.Core.Path.{◌≡◌, sym, ◌∙◌}
use mathlib.Core.Bool.{true, false}
use borrow.Author.Tests.{not-true, not-false}
use Rattle.c_values.specs.Given.{face_known, edge_good}
use Rattle.c_values.specs.Laws.{unknown-set}
use borrow.Author.Rules.{rules}
use Rattle.c_sets.proofs.edge.Goals as goal

pub returns-then-not-face_known : goal.returns-then-not-face_known
unfolding edge_good
returns-then-not-face_known c =
    let s = c in
    let h : face_known s.args.value.now ≡ false = sym c.face_known.ensures ∙ c.if-not-face_known.true in
    let e : edge_good s.args.value.now s.args.floats.now ≡ false = rw h in
    let both = unknown-set s.args.room.now s.args.words.now s.args.reals.now 6 _ _ e c.unknown_tag.ensures _ _ _ _ in record { answer = both.0; tables = both.1.0; floats = both.1.1 }

pub returns : goal.returns
unfolding edge_good
returns c =
    let s = c in
    let h : face_known s.args.value.now ≡ true = sym c.face_known.ensures ∙ c.if-not-face_known.false in
    rw (h, ← c.ref_at-start.ensures, ← c.ref_at-end.ensures, ← c.ref_at-curve.ensures, ← c.tolerance_of-tolerance.ensures) c.set_edge.ensures
