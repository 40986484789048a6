-- `c_answers::box_value` meets its contract. Assumes nothing.
use mathlib.Core.Path.{refl}
use Rattle.c_answers.specs.Values.{corners_value}
use Rattle.c_answers.proofs.box_value.Goals as goal

pub returns : goal.returns
unfolding corners_value
returns c = refl
