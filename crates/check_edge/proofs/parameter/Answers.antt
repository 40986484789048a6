-- `check_edge::parameter` meets its contract: by the end's case. Assumes nothing.
use mathlib.Core.Path.{sym, ap, ◌∙◌}
use Rattle.memory_layout.specs.Decode.{decode}
use Rattle.check_ends.specs.Ends.{ref_of}
use Rattle.check_edge.specs.Edge.{param_of}
use borrow.Author.Rules.{rules}
use Rattle.check_edge.proofs.parameter.Goals as goal

pub returns-in-None : goal.returns-in-None
unfolding param_of
returns-in-None c = ap (λ r. param_of (decode c.args.room.now c.args.words.now c.args.reals.now) c.args.curve (ref_of r)) (sym c.in-None.is)

pub returns-in-Some : goal.returns-in-Some
unfolding param_of
returns-in-Some c = c.parameter_at.ensures ∙ ap (λ r. param_of (decode c.args.room.now c.args.words.now c.args.reals.now) c.args.curve (ref_of r)) (sym c.in-Some.is)
