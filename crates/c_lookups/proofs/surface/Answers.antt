-- `c_lookups::surface` meets its contract. Assumes nothing.
use mathlib.Core.Path.{refl, sym, ap, ◌∙◌}
use Rattle.memory_lookups.specs.declared.CarrierFound.TheVariants.{Is, Refused}
use Rattle.memory_layout.specs.Decode.{decode}
use Rattle.memory_lookups.specs.Lookup.{lookup_refusal, surface_answer}
use Rattle.edit_fields.specs.Fields.{carrier_fields, carrier_floats}
use Rattle.geom_lines_planes.specs.Laws.{Cases, given, denied}
use borrow.Author.Rules.{rules}
use Rattle.c_lookups.proofs.surface.Goals as goal

cases : Cases Is Refused
cases = record { apart = λ b m e. cc; values = λ a b e. cc; numbers = λ m n e. cc }

pub returns-in-Is : goal.returns-in-Is
unfolding surface_answer
returns-in-Is c =
    let s = c.args in
    let t = (decode s.room.now s.words.now s.reals.now).surfaces in
    let p = given cases (lookup_refusal s.room.now s.words.now s.reals.now t s.id) (t.slot s.id) _ (sym c.surface.ensures ∙ c.in-Is.is) in
    record { answer = p.0; slots = c.carrier_fields.ensures ∙ ap carrier_fields p.1; floats = c.carrier_floats.ensures ∙ ap carrier_floats p.1 }

pub returns-in-Refused : goal.returns-in-Refused
unfolding surface_answer
returns-in-Refused c =
    let s = c.args in
    let t = (decode s.room.now s.words.now s.reals.now).surfaces in
    let p = denied cases (lookup_refusal s.room.now s.words.now s.reals.now t s.id) (t.slot s.id) _ (sym c.surface.ensures ∙ c.in-Refused.is) in
    record { answer = p.0; slots = rw p.1 refl; floats = rw p.1 refl }
