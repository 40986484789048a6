-- `c_lookups::fin` meets its contract. Assumes nothing.
use mathlib.Core.Path.{sym, ap, ◌∙◌}
use Rattle.memory_lookups.specs.declared.FinFound.TheVariants.{Is, Refused}
use Rattle.memory_layout.specs.Decode.{decode}
use Rattle.memory_lookups.specs.Lookup.{lookup_refusal, fin_answer}
use Rattle.memory_records.specs.Seen.{seen_fin}
use Rattle.c_values.specs.Crossing.{fin_value}
use Rattle.geom_lines_planes.specs.Laws.{Cases, given, denied}
use borrow.Author.Rules.{rules}
use Rattle.c_lookups.proofs.fin.Goals as goal

cases : Cases Is Refused
cases = record { apart = λ b m e. cc; values = λ a b e. cc; numbers = λ m n e. cc }

pub returns-in-Is : goal.returns-in-Is
unfolding fin_answer
returns-in-Is c =
    let s = c.args in
    let t = (decode s.room.now s.words.now s.reals.now).fins in
    let p = given cases (lookup_refusal s.room.now s.words.now s.reals.now t s.id) (seen_fin (t.slot s.id)) _ (sym c.fin.ensures ∙ c.in-Is.is) in
    record { answer = p.0; slots = c.fin_value.ensures ∙ ap fin_value p.1 }

pub returns-in-Refused : goal.returns-in-Refused
unfolding fin_answer
returns-in-Refused c =
    let s = c.args in
    let t = (decode s.room.now s.words.now s.reals.now).fins in
    let p = denied cases (lookup_refusal s.room.now s.words.now s.reals.now t s.id) (seen_fin (t.slot s.id)) _ (sym c.fin.ensures ∙ c.in-Refused.is) in
    record { answer = p.0; slots = rw p.1 }
