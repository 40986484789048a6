-- `c_values::values::loop_value` meets its contract. Assumes nothing.
use mathlib.Core.Path.{refl}
use Rattle.c_values.specs.Crossing.{loop_value}
use Rattle.c_values.proofs.values.loop_value.Goals as goal

pub returns : goal.returns
unfolding loop_value
returns c = refl
