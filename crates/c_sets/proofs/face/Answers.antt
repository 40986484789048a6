-- `c_sets::face` meets its contract. Assumes nothing.
use mathlib.Core.Path.{◌≡◌, sym, ◌∙◌}
use mathlib.Core.Bool.{true, false}
use borrow.Author.Tests.{not-true, not-false}
use Rattle.c_values.specs.Given.{face_known}
use Rattle.c_values.specs.Laws.{unknown-set}
use borrow.Author.Rules.{rules}
use Rattle.c_sets.proofs.face.Goals as goal

pub returns-then-not-face_known : goal.returns-then-not-face_known
returns-then-not-face_known c =
    let s = c in
    let e : face_known s.args.value.now ≡ false = sym c.face_known.ensures ∙ c.if-not-face_known.true in
    let both = unknown-set s.args.room.now s.args.words.now s.args.reals.now 3 _ _ e c.unknown_tag.ensures _ _ _ _ in record { answer = both.0; tables = both.1.0; floats = both.1.1 }

pub returns : goal.returns
returns c =
    let s = c in
    let h : face_known s.args.value.now ≡ true = sym c.face_known.ensures ∙ c.if-not-face_known.false in
    rw (h, ← c.ref_at-front.ensures, ← c.ref_at-back.ensures, ← c.ref_at-surface.ensures, ← c.sense_of-sense.ensures) c.set_face.ensures
