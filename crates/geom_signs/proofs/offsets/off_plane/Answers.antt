-- `geom_signs::offsets::off_plane` meets its contract: what its calls ensure, put together, is `off_plane_s`. Assumes nothing.
use mathlib.Core.Path.{ap, ap₂, ◌∙◌}
use borrow.Author.Rules.{rules}
use Rattle.interval_arithmetic.specs.Ops.{sub_i, sqr_i, sign_i}
use Rattle.interval_vectors.specs.Vectors.{dot_i}
use Rattle.geom_signs.specs.Signs.{off_plane_s}
use Rattle.geom_signs.proofs.offsets.off_plane.Goals as goal

pub returns : goal.returns
unfolding off_plane_s
returns c =
    let sqr2 = c in
    let sqr = sqr2 in
    let vector = sqr in
    c.sign.ensures
    ∙ ap sign_i
    (c.sub.ensures
    ∙ ap₂ sub_i
    (sqr.sqr.ensures ∙ ap sqr_i (sqr.dot-distance.ensures ∙ ap₂ dot_i vector.point3.ensures vector.vector.ensures))
    (sqr2.sqr-2.ensures ∙ ap sqr_i sqr2.point.ensures))
