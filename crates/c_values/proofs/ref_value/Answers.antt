-- `c_values::ref_value` meets its contract. Assumes nothing.
use borrow.Author.Rules.{rules}
use Rattle.c_values.proofs.ref_value.Goals as goal

pub returns-in-None : goal.returns-in-None
returns-in-None c = rw c.in-None.is

pub returns-in-Some : goal.returns-in-Some
returns-in-Some c = rw c.in-Some.is
