-- `memory_layout::layout::body_at` meets its contract: no table stands in front of the bodies. Assumes nothing.
use mathlib.Core.Path.{refl}
use Rattle.memory_layout.specs.Layout.{base}
use Rattle.memory_layout.proofs.layout.body_at.Goals as goal

pub returns : goal.returns
unfolding base
returns c room = refl
