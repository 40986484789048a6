-- `c_answers::put_counts` meets its contract. Assumes nothing.
use mathlib.Core.Path.{refl}
use Rattle.station_answers.specs.declared.Checked.TheVariants.{Is, Refused}
use Rattle.c_lent.specs.Laws.{value-crosses, refusal-crosses}
use Rattle.geom_lines_planes.specs.Laws.{Cases}
use borrow.Author.Rules.{rules}
use Rattle.c_answers.proofs.put_counts.Goals as goal

cases : Cases Is Refused
cases = record { apart = λ b m e. cc; values = λ a b e. cc; numbers = λ m n e. cc }

pub returns-in-Is : goal.returns-in-Is
returns-in-Is c = value-crosses cases _ c.in-Is.is refl

pub returns-in-Refused : goal.returns-in-Refused
returns-in-Refused c = refusal-crosses cases _ c.in-Refused.is
