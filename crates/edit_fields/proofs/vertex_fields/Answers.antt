-- `edit_fields::vertex_fields` meets its contract. Assumes nothing.
use mathlib.Core.List.{[], ◌∷◌}
use Rattle.edit_fields.specs.Fields.{vertex_fields}
use Rattle.edit_fields.proofs.vertex_fields.Goals as goal

pub returns : goal.returns
unfolding vertex_fields
returns c = λ i. c.tolerance_tag.ensures i ∷ []
