-- `image_accepted::count_in` meets its contract. Assumes nothing.
use mathlib.Core.Path.{◌∙◌}
use Rattle.image_laws.specs.Sizes.{count_at}
use Rattle.image_accepted.proofs.count_in.Goals as goal

pub returns : goal.returns
returns c = c.word_in.ensures ∙ count_at _ _ c.requires.k_bound
