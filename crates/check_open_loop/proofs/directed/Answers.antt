-- `check_open_loop::directed` meets its contract: by the sense. Assumes nothing.
use mathlib.Core.Path.{sym, ap}
use Rattle.check_open_loop.specs.OpenLoop.{directed_refs}
use Rattle.check_open_loop.proofs.directed.Goals as goal

pub returns-in-Positive : goal.returns-in-Positive
unfolding directed_refs
returns-in-Positive c = ap (λ s. directed_refs s c.args.start c.args.end) (sym c.in-Positive.is)

pub returns-in-Negative : goal.returns-in-Negative
unfolding directed_refs
returns-in-Negative c = ap (λ s. directed_refs s c.args.start c.args.end) (sym c.in-Negative.is)
