-- `c_queries::list_entry` meets its contract. Assumes nothing.
use mathlib.Core.Path.{sym, ap, ◌∙◌}
use Rattle.memory_layout.specs.declared.entries.Entry.TheVariants.{Is, Refused}
use Rattle.memory_layout.specs.Layout.{word}
use Rattle.memory_layout.specs.Entries.{list_of}
use Rattle.office_bodies.specs.Answers.{record_asked, office_entry_number, office_entry}
use Rattle.c_lent.specs.Lent.{alone}
use Rattle.geom_lines_planes.specs.Laws.{Cases, given, denied}
use borrow.Author.Rules.{rules}
use Rattle.c_queries.proofs.list_entry.Goals as goal

cases : Cases Is Refused
cases = record { apart = λ b m e. cc; values = λ a b e. cc; numbers = λ m n e. cc }

pub returns-in-Is : goal.returns-in-Is
unfolding office_entry
returns-in-Is c =
    let s = c.args in
    let e = sym c.list_entry.ensures ∙ c.in-Is.is in
    let p = given cases (office_entry_number s.room.now s.words.now s.reals.now s.office s.j s.i s.place) (word (list_of s.room.now s.words.now s.j (record_asked s.room.now s.words.now s.reals.now s.office s.j s.i)) s.place) _ e in
    record { answer = p.0; slots = ap alone p.1 }

pub returns-in-Refused : goal.returns-in-Refused
unfolding office_entry
returns-in-Refused c =
    let s = c.args in
    let e = sym c.list_entry.ensures ∙ c.in-Refused.is in
    let p = denied cases (office_entry_number s.room.now s.words.now s.reals.now s.office s.j s.i s.place) (word (list_of s.room.now s.words.now s.j (record_asked s.room.now s.words.now s.reals.now s.office s.j s.i)) s.place) _ e in
    record { answer = p.0; slots = rw p.1 }
