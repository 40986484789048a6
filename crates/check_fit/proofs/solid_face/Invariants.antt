-- `check_fit::solid_face` meets its contract: a turn of the loop is one region more. Assumes nothing.
use Rattle.std.proofs.Common.{◌≡◌, take}
use Rattle.meaning.specs.Lists.{any}
use Rattle.check_fit.specs.Whole.{solid_in}
use Rattle.check_fit.proofs.solid_face.Given as goal

abbrev pub invariant-loop-region : goal.invariant-loop-region
invariant-loop-region l = l.found ≡ any (solid_in l.room l.words) (take l.region-index l.regions)
