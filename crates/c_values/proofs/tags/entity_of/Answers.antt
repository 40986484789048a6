-- `c_values::tags::entity_of` meets its contract. Assumes nothing.
use native.Mathlib.Omega.{arith}
use Rattle.c_values.specs.Laws.{last-class}
use borrow.Author.Rules.{rules}
use Rattle.c_values.proofs.tags.entity_of.Goals as goal

pub returns-in-4 : goal.returns-in-4
returns-in-4 c = rw c.in-4.is

pub returns-in-5 : goal.returns-in-5
returns-in-5 c = rw c.in-5.is

pub returns-in-6 : goal.returns-in-6
returns-in-6 c = rw c.in-6.is

pub returns-in_default : goal.returns-in_default
returns-in_default c = rw (last-class c.args.class c.args.id (omega arith))
