-- `memory_layout::layout::base` meets its contract: a turn of the loop is a step of the definition. Assumes nothing.
use Rattle.std.specs.Prelude.{◌≡◌}
use Rattle.memory_layout.specs.Layout.{base}
use Rattle.memory_layout.proofs.layout.base.Given as goal

abbrev pub invariant-loop-i : goal.invariant-loop-i
invariant-loop-i l = l.at ≡ base l.from l.strides l.room l.i
