-- `check_reasons::skip` meets its contract. Assumes nothing.
use mathlib.Core.Path.{sym, ◌∙◌}
use Rattle.check_reasons.specs.Laws.{skip-one, noted-over}
use borrow.Author.Rules.{rules}
use Rattle.check_reasons.proofs.skip.Goals as goal

pub returns-then-stops : goal.returns-then-stops
returns-then-stops c = λ d. noted-over _ d _ (sym c.stops.ensures ∙ c.if-stops.true)

pub returns : goal.returns
returns c = λ d. skip-one d _ (sym c.stops.ensures ∙ c.if-stops.false)
