-- `geom_signs::offsets::off_curve` meets its contract: what its calls ensure, put together, is `off_curve_s`. Assumes nothing.
use mathlib.Core.Path.{ap, ap₂, ◌∙◌}
use borrow.Author.Rules.{rules}
use Rattle.interval_arithmetic.specs.Ops.{add_i, sub_i, sqr_i, sign_i}
use Rattle.interval_vectors.specs.declared.Interval3.{Interval3}
use Rattle.interval_vectors.specs.Vectors.{dot_i}
use Rattle.geom_signs.specs.Signs.{off_curve_s}
use Rattle.geom_signs.proofs.offsets.off_curve.Goals as goal

pub returns : goal.returns
unfolding off_curve_s
returns c =
    let sqr = c in
    let add = sqr in
    let point2 = add in
    c.sign.ensures
    ∙ ap sign_i
    (c.sub.ensures
    ∙ ap₂ sub_i
    (sqr.dot.ensures ∙ ap (λ (v : Interval3). dot_i v v) point2.vector-way.ensures)
    (sqr.sqr.ensures ∙ ap sqr_i (add.add-reach.ensures ∙ ap₂ add_i point2.point.ensures point2.point-2.ensures)))
