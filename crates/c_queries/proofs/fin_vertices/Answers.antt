-- `c_queries::fin_vertices` meets its contract. Assumes nothing.
use mathlib.Core.Path.{sym, ap, ◌∙◌}
use Rattle.walk_fin_ends.specs.declared.FinVertices.TheVariants.{Is, Refused}
use Rattle.meaning.specs.Walks.{ends_of}
use Rattle.memory_layout.specs.Decode.{decode}
use Rattle.walk_fin_ends.specs.Answers.{seen_ends, fin_vertices_number, fin_vertices_answer}
use Rattle.c_values.specs.Crossing.{tips_value}
use Rattle.geom_lines_planes.specs.Laws.{Cases, given, denied}
use borrow.Author.Rules.{rules}
use Rattle.c_queries.proofs.fin_vertices.Goals as goal

cases : Cases Is Refused
cases = record { apart = λ b m e. cc; values = λ a b e. cc; numbers = λ m n e. cc }

pub returns-in-Is : goal.returns-in-Is
unfolding fin_vertices_answer
returns-in-Is c =
    let s = c.args in
    let e = sym c.fin_vertices.ensures ∙ c.in-Is.is in
    let p = given cases (fin_vertices_number s.room.now s.words.now s.reals.now s.fin) (seen_ends (ends_of (decode s.room.now s.words.now s.reals.now) s.fin)) _ e in
    record { answer = p.0; slots = c.tips_value.ensures ∙ ap tips_value p.1 }

pub returns-in-Refused : goal.returns-in-Refused
unfolding fin_vertices_answer
returns-in-Refused c =
    let s = c.args in
    let e = sym c.fin_vertices.ensures ∙ c.in-Refused.is in
    let p = denied cases (fin_vertices_number s.room.now s.words.now s.reals.now s.fin) (seen_ends (ends_of (decode s.room.now s.words.now s.reals.now) s.fin)) _ e in
    record { answer = p.0; slots = rw p.1 }
