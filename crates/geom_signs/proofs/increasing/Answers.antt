-- `geom_signs::increasing` meets its contract: what its calls ensure, put together, is `increasing_s`. Assumes nothing.
use mathlib.Core.Path.{ap, ap₂, ◌∙◌}
use borrow.Author.Rules.{rules}
use Rattle.interval_arithmetic.specs.Ops.{sign_i}
use Rattle.interval_vectors.specs.Vectors.{dot_i}
use Rattle.geom_signs.specs.Signs.{increasing_s}
use Rattle.geom_signs.proofs.increasing.Goals as goal

pub returns : goal.returns
unfolding increasing_s
returns c =
    let point3 = c in
    c.sign.ensures ∙ ap sign_i (c.dot.ensures ∙ ap₂ dot_i point3.vector.ensures point3.point3.ensures)
