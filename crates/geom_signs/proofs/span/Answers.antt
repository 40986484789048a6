-- `geom_signs::span` meets its contract: what its calls ensure, put together, is `span_s`. Assumes nothing.
use mathlib.Core.Path.{ap, ◌∙◌}
use borrow.Author.Rules.{rules}
use Rattle.interval_arithmetic.specs.Ops.{sign_i}
use Rattle.geom_signs.specs.Signs.{span_s}
use Rattle.geom_signs.proofs.span.Goals as goal

pub returns : goal.returns
unfolding span_s
returns c = c.sign.ensures ∙ ap sign_i c.difference.ensures
