-- `c_queries::contains` meets its contract. Assumes nothing.
use mathlib.Core.Path.{◌≡◌, refl, sym, ap, ◌∙◌}
use mathlib.Core.Bool.{Bool, true, false}
use mathlib.Core.List.{[], ◌∷◌}
use borrow.Author.Tests.{lt-ltb, le-ltb}
use lib.Dec.{ltb, leb}
use Rattle.geom_lines_planes.specs.Refuse.{◌unless◌, ◌then◌}
use Rattle.memory_layout.specs.Decode.{decode}
use Rattle.memory_layout.specs.Readable.{readable, tag_number}
use Rattle.memory_contains.specs.declared.Contained.TheVariants.{Is, Refused}
use Rattle.memory_contains.specs.Answers.{contained}
use Rattle.memory_offices.specs.Sight.{by_office}
use Rattle.office_bodies.specs.Answers.{entity_for, office_contains}
use Rattle.edit_tags.specs.Tags.{mark}
use Rattle.c_values.specs.Given.{entity_of}
use Rattle.c_values.specs.Laws.{unknown-some}
use Rattle.geom_lines_planes.specs.Laws.{Cases, given, denied}
use borrow.Author.Rules.{rules}
use Rattle.c_queries.proofs.contains.Goals as goal

cases : Cases Is Refused
cases = record { apart = λ b m e. cc; values = λ a b e. cc; numbers = λ m n e. cc }

-- 1, whatever the office
either : (b c : Bool) → (9 unless b then 1) ≡ (9 unless b then 1 unless c then 1)
either true true = refl
either true false = refl
either false c = refl

pub returns-then-class-ge8 : goal.returns-then-class-ge8
unfolding tag_number by_office
returns-then-class-ge8 c =
    let s = c.args in
    let e : ltb s.class 8 ≡ false = le-ltb _ _ c.if-class-ge8.true in
    rw e record { answer = c.unknown_tag.ensures ∙ either (readable s.room.now s.words.now s.reals.now) (leb s.office 1); slots = rw (unknown-some s.room.now s.words.now s.reals.now _ c.unknown_tag.ensures) }

pub returns-in-Is : goal.returns-in-Is
unfolding office_contains
returns-in-Is c =
    let s = c.args in
    let h : ltb s.class 8 ≡ true = lt-ltb _ _ c.if-class-ge8.false in
    let e = sym (c.contains.ensures ∙ ap (office_contains s.room.now s.words.now s.reals.now s.office) c.entity_of-entity.ensures) ∙ c.in-Is.is in
    let p = given cases (by_office s.room.now s.words.now s.reals.now s.office 0) (contained (decode s.room.now s.words.now s.reals.now) (entity_for (decode s.room.now s.words.now s.reals.now) s.office (entity_of s.class s.id))) _ e in
    rw h record { answer = p.0; slots = c.mark_value.ensures ∙ ap (λ b. mark b ∷ []) p.1 }

pub returns-in-Refused : goal.returns-in-Refused
unfolding office_contains
returns-in-Refused c =
    let s = c.args in
    let h : ltb s.class 8 ≡ true = lt-ltb _ _ c.if-class-ge8.false in
    let e = sym (c.contains.ensures ∙ ap (office_contains s.room.now s.words.now s.reals.now s.office) c.entity_of-entity.ensures) ∙ c.in-Refused.is in
    let p = denied cases (by_office s.room.now s.words.now s.reals.now s.office 0) (contained (decode s.room.now s.words.now s.reals.now) (entity_for (decode s.room.now s.words.now s.reals.now) s.office (entity_of s.class s.id))) _ e in
    rw h record { answer = p.0; slots = rw p.1 }
