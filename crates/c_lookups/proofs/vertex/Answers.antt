-- `c_lookups::vertex` meets its contract. Assumes nothing.
use mathlib.Core.Path.{refl, sym, ap, ◌∙◌}
use Rattle.memory_lookups.specs.declared.VertexFound.TheVariants.{Is, Refused}
use Rattle.memory_layout.specs.Decode.{decode}
use Rattle.memory_lookups.specs.Lookup.{lookup_refusal, vertex_answer}
use Rattle.memory_records.specs.Seen.{seen_vertex}
use Rattle.c_values.specs.Crossing.{vertex_value, vertex_reals}
use Rattle.geom_lines_planes.specs.Laws.{Cases, given, denied}
use borrow.Author.Rules.{rules}
use Rattle.c_lookups.proofs.vertex.Goals as goal

cases : Cases Is Refused
cases = record { apart = λ b m e. cc; values = λ a b e. cc; numbers = λ m n e. cc }

pub returns-in-Is : goal.returns-in-Is
unfolding vertex_answer
returns-in-Is c =
    let s = c.args in
    let t = (decode s.room.now s.words.now s.reals.now).vertices in
    let p = given cases (lookup_refusal s.room.now s.words.now s.reals.now t s.id) (seen_vertex (t.slot s.id)) _ (sym c.vertex.ensures ∙ c.in-Is.is) in
    record { answer = p.0; slots = c.vertex_value.ensures ∙ ap vertex_value p.1; floats = c.vertex_own.ensures ∙ ap vertex_reals p.1 }

pub returns-in-Refused : goal.returns-in-Refused
unfolding vertex_answer
returns-in-Refused c =
    let s = c.args in
    let t = (decode s.room.now s.words.now s.reals.now).vertices in
    let p = denied cases (lookup_refusal s.room.now s.words.now s.reals.now t s.id) (seen_vertex (t.slot s.id)) _ (sym c.vertex.ensures ∙ c.in-Refused.is) in
    record { answer = p.0; slots = rw p.1 refl; floats = rw p.1 refl }
