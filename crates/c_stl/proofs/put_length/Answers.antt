-- `c_stl::put_length` meets its contract. Assumes nothing.
use mathlib.Core.Path.{refl}
use Rattle.stl_writer.specs.declared.StlLength.TheVariants.{Is, Refused}
use Rattle.c_lent.specs.Laws.{value-crosses, refusal-crosses}
use Rattle.geom_lines_planes.specs.Laws.{Cases}
use borrow.Author.Rules.{rules}
use Rattle.c_stl.proofs.put_length.Goals as goal

cases : Cases Is Refused
cases = record { apart = λ b m e. cc; values = λ a b e. cc; numbers = λ m n e. cc }

pub returns-in-Is : goal.returns-in-Is
returns-in-Is c = value-crosses cases _ c.in-Is.is refl

pub returns-in-Refused : goal.returns-in-Refused
returns-in-Refused c = refusal-crosses cases _ c.in-Refused.is
