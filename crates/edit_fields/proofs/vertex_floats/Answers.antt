-- `edit_fields::vertex_floats` meets its contract. Assumes nothing.
use mathlib.Core.List.{[], ◌∷◌}
use Rattle.edit_fields.specs.Fields.{vertex_floats}
use Rattle.edit_fields.proofs.vertex_floats.Goals as goal

pub returns : goal.returns
unfolding vertex_floats
returns c =
    let p = c.args.point in
    λ i. p.x ∷ p.y ∷ p.z ∷ c.tolerance_float.ensures i ∷ []
