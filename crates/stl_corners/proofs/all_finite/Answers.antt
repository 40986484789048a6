-- `stl_corners::all_finite` meets its contract: a turn of the loop is one more triangle. Assumes nothing.
use Rattle.std.proofs.Common.{refl}
use Rattle.stl_body.specs.Read.{triangles_in, corners, all_finite}
use Rattle.stl_corners.specs.Laws.{finite-both, tested-more}
use Rattle.stl_corners.proofs.all_finite.Goals as goal

pub loop-k-init : goal.loop-k-init
unfolding triangles_in corners all_finite
loop-k-init c = refl

pub loop-k-preserved : goal.loop-k-preserved
loop-k-preserved c = tested-more (λ l. all_finite (corners l)) finite-both c.loop-k.k c.args.bytes.now _ _ c.loop-k.invariant c.finite_at-ok.ensures
