-- `memory_layout::layout::real_stride` meets its contract. Assumes nothing.
use mathlib.Core.Path.{refl}
use Rattle.memory_layout.proofs.layout.real_stride.Goals as goal

pub returns : goal.returns
returns c = refl
