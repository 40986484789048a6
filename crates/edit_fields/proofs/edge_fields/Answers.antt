-- `edit_fields::edge_fields` meets its contract. Assumes nothing.
use mathlib.Core.List.{[], ◌∷◌}
use Rattle.edit_fields.specs.Fields.{edge_fields}
use Rattle.edit_fields.proofs.edge_fields.Goals as goal

pub returns : goal.returns
unfolding edge_fields
returns c =
    λ i. c.ref_tag.ensures i ∷ c.ref_id.ensures i ∷ c.ref_tag-2.ensures i
    ∷ c.ref_id-2.ensures i ∷ c.ref_tag-3.ensures i ∷ c.ref_id-3.ensures i
    ∷ c.tolerance_tag.ensures i ∷ []
