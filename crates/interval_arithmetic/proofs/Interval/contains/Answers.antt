-- `interval_arithmetic::Interval::contains` meets its contract: the code computes `contains_i`. Assumes nothing.
use mathlib.Core.Path.{refl}
use Rattle.interval_arithmetic.proofs.Interval.contains.Goals as goal

pub returns : goal.returns
returns c = refl
