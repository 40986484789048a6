-- `c_values::put_id` meets its contract. Assumes nothing.
use mathlib.Core.Path.{refl}
use Rattle.edit_core.specs.declared.Inserted.TheVariants.{At, Refused}
use Rattle.c_lent.specs.Laws.{value-crosses, refusal-crosses}
use Rattle.geom_lines_planes.specs.Laws.{Cases}
use borrow.Author.Rules.{rules}
use Rattle.c_values.proofs.put_id.Goals as goal

cases : Cases At Refused
cases = record { apart = λ b m e. cc; values = λ a b e. cc; numbers = λ m n e. cc }

pub returns-in-At : goal.returns-in-At
returns-in-At c = value-crosses cases _ c.in-At.is refl

pub returns-in-Refused : goal.returns-in-Refused
returns-in-Refused c = refusal-crosses cases _ c.in-Refused.is
