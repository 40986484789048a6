-- `edit_fields::carrier_fields` meets its contract. Assumes nothing.
use mathlib.Core.List.{[], ◌∷◌}
use Rattle.edit_fields.specs.Fields.{carrier_fields}
use Rattle.edit_fields.proofs.carrier_fields.Goals as goal

pub returns : goal.returns
unfolding carrier_fields
returns c = λ i. c.carrier_tag.ensures i ∷ []
