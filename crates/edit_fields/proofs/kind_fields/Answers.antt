-- `edit_fields::kind_fields` meets its contract. Assumes nothing.
use mathlib.Core.List.{[], ◌∷◌}
use Rattle.edit_fields.specs.Fields.{kind_fields}
use Rattle.edit_fields.proofs.kind_fields.Goals as goal

pub returns : goal.returns
unfolding kind_fields
returns c = λ i. c.kind_tag.ensures i ∷ []
