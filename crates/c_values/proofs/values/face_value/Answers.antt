-- `c_values::values::face_value` meets its contract. Assumes nothing.
use Rattle.c_values.specs.Crossing.{face_value}
use Rattle.edit_fields.specs.Fields.{face_fields}
use borrow.Author.Rules.{rules}
use Rattle.c_values.proofs.values.face_value.Goals as goal

pub returns : goal.returns
unfolding face_value face_fields
returns c = rw c.face_fields-v.ensures
