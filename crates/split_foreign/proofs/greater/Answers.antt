-- `split_foreign::greater` meets its contract. Assumes nothing.
use mathlib.Core.Path.{sym}
use Rattle.split_foreign.specs.Laws.{greater-lt, greater-le}
use Rattle.split_foreign.proofs.greater.Goals as goal

pub returns-then-a-b : goal.returns-then-a-b
returns-then-a-b c = sym (greater-lt _ _ c.if-a-b.true)

pub returns : goal.returns
returns c = sym (greater-le _ _ c.if-a-b.false)
