-- `edit_fields::fin_fields` meets its contract. Assumes nothing.
use mathlib.Core.List.{[], ◌∷◌}
use Rattle.edit_fields.specs.Fields.{fin_fields}
use Rattle.edit_fields.proofs.fin_fields.Goals as goal

pub returns : goal.returns
unfolding fin_fields
returns c =
    let s = c.args in
    λ i. s.owner ∷ s.edge ∷ c.sense_tag.ensures i ∷ c.mark.ensures i ∷ []
