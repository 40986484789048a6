-- `slab_faces::face_tested` meets its contract. Assumes nothing.
use Rattle.slab_faces.specs.Laws.{normal-tested, loops-tested, not-asked, one-asked, loops-are}
use Rattle.memory_layout.specs.Laws.{lists_of}
use Rattle.memory_layout.specs.Decode.{decode}
use mathlib.Core.Path.{sym, ap, ◌∙◌}
use Rattle.inquire_sides.specs.Laws.{face-there}
use Prim.Native.Nat.{ℕ, suc}
use mathlib.Core.List.{List}
use lib.ListN.{length}
use lib.Dec.{eqb}
use borrow.Author.Tests.{eq-eqb, ne_eqb}
use Rattle.meaning_slabs.specs.Slabs.{along_normal, signed_axis}
use Rattle.geom_lines_planes.specs.Refuse.{◌unless◌}
use native.Mathlib.Omega.{arith}
use Rattle.slab_faces.proofs.face_tested.Goals as goal

pub normal_of-requires : goal.normal_of-requires
normal_of-requires c = let s = c in record { fit = s.requires.fit; f_bound = face-there s.args.room.now s.args.words.now s.args.f s.requires.f_value }

pub returns-then-rule-eq-NORMAL : goal.returns-then-rule-eq-NORMAL
unfolding along_normal
returns-then-rule-eq-NORMAL c = let s = c in c.unless_holds.ensures ∙ ap (λ t. suc s.args.f unless t) (c.signed_axis.ensures ∙ ap signed_axis c.normal_of.ensures) ∙ normal-tested (decode s.args.room.now s.args.words.now s.args.reals.now) s.args.rule s.args.f c.if-rule-eq-NORMAL.true

pub list-loops-requires : goal.list-loops-requires
list-loops-requires c = let s = c in record { lists = lists_of s.args.room.now s.args.words.now s.args.reals.now s.requires.fit; j_bound = (omega arith, face-there s.args.room.now s.args.words.now s.args.f s.requires.f_value) }

pub returns-then-rule-eq-ONE_LOOP : goal.returns-then-rule-eq-ONE_LOOP
returns-then-rule-eq-ONE_LOOP c = let s = c in c.unless_holds-then-rule-eq-ONE_LOOP.ensures ∙ ap (λ t. suc s.args.f unless t) (ap (λ (l : List ℕ). eqb (length l) 1) c.list-loops.ensures ∙ sym (loops-are s.args.room.now s.args.words.now s.args.reals.now s.args.f)) ∙ loops-tested (decode s.args.room.now s.args.words.now s.args.reals.now) s.args.rule s.args.f c.if-rule-eq-NORMAL.false c.if-rule-eq-ONE_LOOP.true

pub returns-then-loops-ne1 : goal.returns-then-loops-ne1
returns-then-loops-ne1 c = let s = c in not-asked (decode s.args.room.now s.args.words.now s.args.reals.now) s.args.rule s.args.f c.if-rule-eq-NORMAL.false c.if-rule-eq-ONE_LOOP.false (loops-are s.args.room.now s.args.words.now s.args.reals.now s.args.f ∙ ap (λ (l : List ℕ). eqb (length l) 1) (sym c.list-loops.ensures) ∙ ne_eqb _ 1 c.if-loops-ne1.true)

pub rim_tested-requires : goal.rim_tested-requires
rim_tested-requires c = let s = c in record { fit = s.requires.fit; f_value = s.requires.f_value; f_len = ap length (sym c.list-loops.ensures) ∙ c.if-loops-ne1.false }

pub returns : goal.returns
returns c = let s = c in c.rim_tested.ensures ∙ one-asked (decode s.args.room.now s.args.words.now s.args.reals.now) s.args.rule s.args.f c.if-rule-eq-NORMAL.false c.if-rule-eq-ONE_LOOP.false (loops-are s.args.room.now s.args.words.now s.args.reals.now s.args.f ∙ ap (λ (l : List ℕ). eqb (length l) 1) (sym c.list-loops.ensures) ∙ eq-eqb _ 1 c.if-loops-ne1.false)
