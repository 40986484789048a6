-- `c_answers::put_fit` meets its contract. Assumes nothing.
use mathlib.Core.Path.{ap}
use Rattle.station_answers.specs.declared.Sawable.TheVariants.{Is, Refused}
use Rattle.c_lent.specs.Lent.{alone}
use Rattle.c_lent.specs.Laws.{value-crosses, refusal-crosses}
use Rattle.geom_lines_planes.specs.Laws.{Cases}
use borrow.Author.Rules.{rules}
use Rattle.c_answers.proofs.put_fit.Goals as goal

cases : Cases Is Refused
cases = record { apart = λ b m e. cc; values = λ a b e. cc; numbers = λ m n e. cc }

pub returns-in-Is : goal.returns-in-Is
returns-in-Is c = value-crosses cases _ c.in-Is.is (ap alone c.mark.ensures)

pub returns-in-Refused : goal.returns-in-Refused
returns-in-Refused c = refusal-crosses cases _ c.in-Refused.is
