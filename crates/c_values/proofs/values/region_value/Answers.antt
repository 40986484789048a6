-- `c_values::values::region_value` meets its contract. Assumes nothing.
use Rattle.c_values.specs.Crossing.{region_value}
use Rattle.edit_fields.specs.Fields.{region_fields}
use borrow.Author.Rules.{rules}
use Rattle.c_values.proofs.values.region_value.Goals as goal

pub returns : goal.returns
unfolding region_value region_fields
returns c = rw c.region_fields-f.ensures
