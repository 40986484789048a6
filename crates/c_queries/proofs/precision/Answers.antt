-- `c_queries::precision` meets its contract. Assumes nothing.
use mathlib.Core.Path.{sym, ap, ◌∙◌}
use Rattle.memory_contains.specs.declared.PrecisionFound.TheVariants.{Is, Refused}
use Rattle.geom_lines_planes.specs.Refuse.{◌unless◌}
use Rattle.memory_layout.specs.Decode.{decode}
use Rattle.memory_layout.specs.Readable.{readable}
use Rattle.memory_contains.specs.Answers.{precision_answer}
use Rattle.c_lent.specs.Lent.{alone}
use Rattle.geom_lines_planes.specs.Laws.{Cases, given, denied}
use borrow.Author.Rules.{rules}
use Rattle.c_queries.proofs.precision.Goals as goal

cases : Cases Is Refused
cases = record { apart = λ b m e. cc; values = λ a b e. cc; numbers = λ m n e. cc }

pub returns-in-Is : goal.returns-in-Is
unfolding precision_answer
returns-in-Is c =
    let s = c.args in
    let e = sym c.precision.ensures ∙ c.in-Is.is in
    let p = given cases (9 unless readable s.room.now s.words.now s.reals.now) (decode s.room.now s.words.now s.reals.now).precision _ e in
    record { answer = p.0; slots = ap alone p.1 }

pub returns-in-Refused : goal.returns-in-Refused
unfolding precision_answer
returns-in-Refused c =
    let s = c.args in
    let e = sym c.precision.ensures ∙ c.in-Refused.is in
    let p = denied cases (9 unless readable s.room.now s.words.now s.reals.now) (decode s.room.now s.words.now s.reals.now).precision _ e in
    record { answer = p.0; slots = rw p.1 }
