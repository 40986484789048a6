-- `check_fit::solid_face` meets its contract: a turn of the loop is one region more. Assumes nothing.
use Rattle.std.proofs.Common.{arith}
use Rattle.walk_marks.specs.Laws.{all-nth}
use Rattle.walk_sources.specs.Sources.{followed}
use Rattle.check_fit.specs.Laws.{any_none, any-turn}
use Rattle.check_fit.proofs.solid_face.Goals as goal

pub loop-region-init : goal.loop-region-init
loop-region-init c = rw any_none

pub solid_region-found-requires : goal.solid_region-found-requires
solid_region-found-requires c =
    let s = c in
    record { lists = s.requires.lists; region_value = all-nth (followed s.args.room.now s.args.words.now 1) s.args.regions.now c.loop-region.region-index s.requires.regions_value (omega arith) }

pub loop-region-preserved : goal.loop-region-preserved
loop-region-preserved c = any-turn _ c.args.regions.now c.loop-region.region-index _ _ (omega arith) c.loop-region.invariant c.solid_region-found.ensures
