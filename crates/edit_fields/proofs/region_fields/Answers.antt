-- `edit_fields::region_fields` meets its contract. Assumes nothing.
use mathlib.Core.List.{[], ◌∷◌}
use Rattle.edit_fields.specs.Fields.{region_fields}
use Rattle.edit_fields.proofs.region_fields.Goals as goal

pub returns : goal.returns
unfolding region_fields
returns c = λ i. c.args.body ∷ c.mark.ensures i ∷ []
