-- `interval_vectors::dot` meets its contract: what its calls ensure, put together, is `dot_i`. Assumes nothing.
use mathlib.Core.Path.{ap₂, ◌∙◌}
use borrow.Author.Rules.{rules}
use Rattle.interval_arithmetic.specs.Ops.{add_i}
use Rattle.interval_vectors.specs.Vectors.{dot_i}
use Rattle.interval_vectors.proofs.dot.Goals as goal

pub returns : goal.returns
unfolding dot_i
returns c =
    let add = c in
    c.add-2.ensures
    ∙ ap₂ add_i (add.add.ensures ∙ ap₂ add_i add.mul.ensures add.mul-2.ensures) c.mul-3.ensures
