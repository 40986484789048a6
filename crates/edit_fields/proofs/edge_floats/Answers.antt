-- `edit_fields::edge_floats` meets its contract. Assumes nothing.
use mathlib.Core.List.{[], ◌∷◌}
use Rattle.edit_fields.specs.Fields.{edge_floats}
use Rattle.edit_fields.proofs.edge_floats.Goals as goal

pub returns : goal.returns
unfolding edge_floats
returns c = λ i. c.tolerance_float.ensures i ∷ []
