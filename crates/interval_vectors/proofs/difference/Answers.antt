-- `interval_vectors::difference` meets its contract: what its calls ensure, put together, is `difference_i`. Assumes nothing.
use mathlib.Core.Path.{ap₂, ◌∙◌}
use borrow.Author.Rules.{rules}
use Rattle.interval_arithmetic.specs.Ops.{sub_i}
use Rattle.interval_vectors.specs.Vectors.{difference_i}
use Rattle.interval_vectors.proofs.difference.Goals as goal

pub returns : goal.returns
unfolding difference_i
returns c = c.sub.ensures ∙ ap₂ sub_i c.point.ensures c.point-2.ensures
