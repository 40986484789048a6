-- `split_foreign::bit` meets its contract. Assumes nothing.
use Rattle.meaning.specs.Formed.{bit}
use mathlib.Core.Path.{sym, ap}
use Rattle.split_foreign.proofs.bit.Goals as goal

pub returns-then-met : goal.returns-then-met
returns-then-met c = sym (ap bit c.if-met.true)

pub returns : goal.returns
returns c = sym (ap bit c.if-met.false)
