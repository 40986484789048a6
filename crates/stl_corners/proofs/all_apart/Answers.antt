-- `stl_corners::all_apart` meets its contract: a turn of the loop is one more triangle. Assumes nothing.
use Rattle.std.proofs.Common.{refl}
use Rattle.stl_body.specs.Read.{triangles_in, all_apart}
use Rattle.stl_corners.specs.Laws.{apart-both, tested-more}
use Rattle.stl_corners.proofs.all_apart.Goals as goal

pub loop-k-init : goal.loop-k-init
unfolding triangles_in all_apart
loop-k-init c = refl

pub loop-k-preserved : goal.loop-k-preserved
loop-k-preserved c = tested-more all_apart apart-both c.loop-k.k c.args.bytes.now _ _ c.loop-k.invariant c.apart_at-ok.ensures
