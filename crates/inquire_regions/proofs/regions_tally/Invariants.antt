-- `inquire_regions::regions_tally` meets its contract: a turn of the loop is one region more. Assumes nothing.
use Rattle.std.specs.Prelude.{◌≡◌}
use Rattle.std.proofs.Common.{take}
use Rattle.meaning.specs.Lists.{joined}
use Rattle.memory_layout.specs.Decode.{decode}
use Rattle.inquire_regions.specs.Regions.{tally_of, region_sides}
use Rattle.inquire_regions.proofs.regions_tally.Given as goal

abbrev pub invariant-loop-region : goal.invariant-loop-region
invariant-loop-region l = l.t ≡ tally_of l.whole (decode l.room l.words l.reals) (joined (region_sides (decode l.room l.words l.reals)) (take l.region-index l.regions))
