-- `c_values::values::body_value` meets its contract. Assumes nothing.
use Rattle.c_values.specs.Crossing.{body_value}
use Rattle.edit_fields.specs.Fields.{kind_fields}
use borrow.Author.Rules.{rules}
use Rattle.c_values.proofs.values.body_value.Goals as goal

pub returns : goal.returns
unfolding body_value kind_fields
returns c = rw c.kind_fields-f.ensures
