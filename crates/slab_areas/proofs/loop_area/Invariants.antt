-- `slab_areas::loop_area` meets its contract. Assumes nothing.
use Rattle.std.specs.Prelude.{suc, ◌≡◌, ◌*◌, ◌^◌, ◌≤◌, nat_abs}
use Rattle.std.proofs.Common.{take}
use Rattle.meaning_slabs.specs.Slabs.{steps, closed, sumℤ}
use Rattle.memory_layout.specs.Decode.{decode}
use Rattle.slab_areas.specs.Measured.{step_at}
use Rattle.slab_areas.proofs.loop_area.Given as goal

abbrev pub invariant-loop-k : goal.invariant-loop-k
invariant-loop-k l = (l.acc ≡ sumℤ (steps (step_at (decode l.room l.words l.reals) l.axis) (take (suc l.k) (closed l.fins)))) × (nat_abs l.acc ≤ 2 ^ 31 * l.k)
