-- `edit_fields::body_fields` meets its contract. Assumes nothing.
use mathlib.Core.List.{[], ◌∷◌}
use Rattle.edit_fields.specs.Fields.{body_fields}
use Rattle.edit_fields.proofs.body_fields.Goals as goal

pub returns : goal.returns
unfolding body_fields
returns c = λ i. c.kind_tag.ensures i ∷ c.args.office ∷ []
