-- `slab_areas::write_areas` meets its contract. Assumes nothing.
use Rattle.std.specs.Prelude.{◌≡◌, ◌*◌, ◌^◌, ◌≤◌, map}
use Rattle.std.proofs.Common.{take}
use Rattle.meaning_slabs.specs.Slabs.{face_area, area_sum}
use Rattle.memory_layout.specs.Decode.{decode}
use Rattle.memory_writes.specs.Put.{over}
use Rattle.slab_areas.proofs.write_areas.Given as goal

abbrev pub invariant-loop-k : goal.invariant-loop-k
invariant-loop-k l = (l.sum ≡ area_sum (map (face_area (decode l.room l.words l.reals)) (take l.k l.faces)))
    × (l.areas ≡ over 0 (map (face_area (decode l.room l.words l.reals)) (take l.k l.faces)) l.initial.areas) × (l.sum ≤ 2 ^ 42 * l.k)
