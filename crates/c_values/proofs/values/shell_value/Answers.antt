-- `c_values::values::shell_value` meets its contract. Assumes nothing.
use mathlib.Core.Path.{refl}
use Rattle.c_values.specs.Crossing.{shell_value}
use Rattle.c_values.proofs.values.shell_value.Goals as goal

pub returns : goal.returns
unfolding shell_value
returns c = refl
