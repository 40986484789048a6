-- `c_queries::bounds_of` meets its contract. Assumes nothing.
use mathlib.Core.Path.{sym, ap, ◌∙◌}
use mathlib.Core.List.{[], ◌∷◌}
use Rattle.split_bounds.specs.declared.ParamRange.{ParamRange}
use Rattle.split_bounds.specs.declared.Bounds.TheVariants.{Is, Refused}
use Rattle.meaning.specs.Split.{lo, hi}
use Rattle.memory_layout.specs.Decode.{decode}
use Rattle.split_bounds.specs.Answers.{bounds_number, bounds_answer}
use Rattle.geom_lines_planes.specs.Laws.{Cases, given, denied}
use borrow.Author.Rules.{rules}
use Rattle.c_queries.proofs.bounds_of.Goals as goal

cases : Cases Is Refused
cases = record { apart = λ b m e. cc; values = λ a b e. cc; numbers = λ m n e. cc }

pub returns-in-Is : goal.returns-in-Is
unfolding bounds_answer
returns-in-Is c =
    let s = c.args in
    let e = sym c.edge_parameter_bounds.ensures ∙ c.in-Is.is in
    let p = given cases (bounds_number s.room.now s.words.now s.reals.now s.edge) (record { lo = lo (decode s.room.now s.words.now s.reals.now) s.edge; hi = hi (decode s.room.now s.words.now s.reals.now) s.edge }) _ e in
    record { answer = p.0; slots = ap (λ (q : ParamRange). q.lo ∷ q.hi ∷ []) p.1 }

pub returns-in-Refused : goal.returns-in-Refused
unfolding bounds_answer
returns-in-Refused c =
    let s = c.args in
    let e = sym c.edge_parameter_bounds.ensures ∙ c.in-Refused.is in
    let p = denied cases (bounds_number s.room.now s.words.now s.reals.now s.edge) (record { lo = lo (decode s.room.now s.words.now s.reals.now) s.edge; hi = hi (decode s.room.now s.words.now s.reals.now) s.edge }) _ e in
    record { answer = p.0; slots = rw p.1 }
