-- `geom_signs::apart` meets its contract: what its calls ensure, put together, is `apart_s`. Assumes nothing.
use mathlib.Core.Path.{ap, ap₂, ◌∙◌}
use borrow.Author.Rules.{rules}
use Rattle.interval_arithmetic.specs.Ops.{sub_i, sqr_i, sign_i}
use Rattle.interval_vectors.specs.declared.Interval3.{Interval3}
use Rattle.interval_vectors.specs.Vectors.{dot_i}
use Rattle.geom_signs.specs.Signs.{apart_s}
use Rattle.geom_signs.proofs.apart.Goals as goal

pub returns : goal.returns
unfolding apart_s
returns c =
    let sqr = c in
    let dot = sqr in
    c.sign.ensures
    ∙ ap sign_i
    (c.sub.ensures
    ∙ ap₂ sub_i (dot.dot.ensures ∙ ap (λ (v : Interval3). dot_i v v) dot.vector-delta.ensures) (sqr.sqr.ensures ∙ ap sqr_i sqr.point.ensures))
