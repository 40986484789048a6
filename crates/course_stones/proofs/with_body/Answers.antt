-- `course_stones::with_body` meets its contract. Assumes nothing.
use mathlib.Core.Path.{◌∙◌}
use Rattle.course_stones.specs.Laws.{body-beyond, body-within}
use Rattle.course_stones.proofs.with_body.Goals as goal

pub returns-then-body-ge64 : goal.returns-then-body-ge64
returns-then-body-ge64 c = c.with_stone.ensures ∙ body-beyond _ _ _ _ _ c.if-body-ge64.true

pub returns : goal.returns
returns c = c.with_stone-2.ensures ∙ body-within _ _ _ _ _ c.if-body-ge64.false
