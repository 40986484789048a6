-- `c_lookups::body` meets its contract. Assumes nothing.
use mathlib.Core.Path.{sym, ap, ◌∙◌}
use Rattle.memory_lookups.specs.declared.BodyFound.TheVariants.{Is, Refused}
use Rattle.memory_layout.specs.Decode.{decode}
use Rattle.meaning.specs.Offices.{body_for}
use Rattle.office_bodies.specs.Answers.{office_body_number, office_body}
use Rattle.memory_records.specs.Seen.{seen_body}
use Rattle.c_values.specs.Crossing.{body_value}
use Rattle.geom_lines_planes.specs.Laws.{Cases, given, denied}
use borrow.Author.Rules.{rules}
use Rattle.c_lookups.proofs.body.Goals as goal

cases : Cases Is Refused
cases = record { apart = λ b m e. cc; values = λ a b e. cc; numbers = λ m n e. cc }

pub returns-in-Is : goal.returns-in-Is
unfolding office_body
returns-in-Is c =
    let s = c.args in
    let m = decode s.room.now s.words.now s.reals.now in
    let p = given cases (office_body_number s.room.now s.words.now s.reals.now s.office s.id) (seen_body (m.bodies.slot (body_for m s.office s.id))) _ (sym c.body.ensures ∙ c.in-Is.is) in
    record { answer = p.0; slots = c.body_value.ensures ∙ ap body_value p.1 }

pub returns-in-Refused : goal.returns-in-Refused
unfolding office_body
returns-in-Refused c =
    let s = c.args in
    let m = decode s.room.now s.words.now s.reals.now in
    let p = denied cases (office_body_number s.room.now s.words.now s.reals.now s.office s.id) (seen_body (m.bodies.slot (body_for m s.office s.id))) _ (sym c.body.ensures ∙ c.in-Refused.is) in
    record { answer = p.0; slots = rw p.1 }
