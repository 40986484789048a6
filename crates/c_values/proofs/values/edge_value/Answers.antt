-- `c_values::values::edge_value` meets its contract. Assumes nothing.
use Rattle.c_values.specs.Crossing.{edge_value}
use Rattle.edit_fields.specs.Fields.{edge_fields}
use borrow.Author.Rules.{rules}
use Rattle.c_values.proofs.values.edge_value.Goals as goal

pub returns : goal.returns
unfolding edge_value edge_fields
returns c = rw c.edge_fields-v.ensures
