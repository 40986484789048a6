-- `stl_regions::draw_regions` meets its contract: a turn of the loop is one region more. Assumes nothing.
use Rattle.std.specs.Prelude.{◌*◌, ◌≤◌, true, take}
use Rattle.meaning.specs.Lists.{joined}
use Rattle.memory_layout.specs.Decode.{decode}
use Rattle.inquire_regions.specs.Regions.{region_sides}
use Rattle.stl_fan.specs.Pens.{Drawn}
use Rattle.stl_regions.proofs.draw_regions.Given as goal

abbrev pub invariant-loop-region : goal.invariant-loop-region
invariant-loop-region l = (l.t.count ≤ 0x800000 * l.region-index) × Drawn (decode l.room l.words l.reals) (joined (region_sides (decode l.room l.words l.reals)) (take l.region-index l.regions)) (record { narrow = true; count = 0 }) l.t l.initial.bytes l.bytes
