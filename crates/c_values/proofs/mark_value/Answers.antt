-- `c_values::mark_value` meets its contract. Assumes nothing.
use Rattle.c_values.proofs.mark_value.Goals as goal

pub returns-then-yes : goal.returns-then-yes
returns-then-yes c = rw c.if-yes.true

pub returns : goal.returns
returns c = rw c.if-yes.false
