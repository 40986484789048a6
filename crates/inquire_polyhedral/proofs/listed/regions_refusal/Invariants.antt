-- `inquire_polyhedral::listed::regions_refusal` meets its contract: a turn of the loop is one region more. Assumes nothing.
use Rattle.std.specs.Prelude.{◌≡◌}
use Rattle.std.proofs.Common.{take}
use Rattle.meaning.specs.Refuse.{first_of}
use Rattle.inquire_polyhedral.specs.Tested.{region_tested}
use Rattle.inquire_polyhedral.proofs.listed.regions_refusal.Given as goal

abbrev pub invariant-loop-region : goal.invariant-loop-region
invariant-loop-region l = l.n ≡ first_of (region_tested l.room l.words l.reals l.test) (take l.region-index l.regions)
