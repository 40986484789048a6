-- `c_values::values::fin_value` meets its contract. Assumes nothing.
use Rattle.c_values.specs.Crossing.{fin_value}
use borrow.Author.Rules.{rules}
use Rattle.c_values.proofs.values.fin_value.Goals as goal

pub returns : goal.returns
unfolding fin_value
returns c = c.fin_fields.ensures
