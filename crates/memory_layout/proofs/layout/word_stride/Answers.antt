-- `memory_layout::layout::word_stride` meets its contract. Assumes nothing.
use mathlib.Core.Path.{refl}
use Rattle.memory_layout.proofs.layout.word_stride.Goals as goal

pub returns : goal.returns
returns c = refl
