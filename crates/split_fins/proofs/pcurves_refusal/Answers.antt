-- `split_fins::pcurves_refusal` meets its contract. Assumes nothing.
use Rattle.std.proofs.Common.{sym, ◌∙◌, arith}
use Rattle.meaning_list_laws.specs.Tests.{first_of-none}
use Rattle.walk_marks.specs.Laws.{first-turn}
use Rattle.split_fins.proofs.pcurves_refusal.Goals as goal

pub loop-fin-init : goal.loop-fin-init
loop-fin-init c = sym (first_of-none _)

pub loop-fin-preserved : goal.loop-fin-preserved
loop-fin-preserved c = c.then-n.ensures ∙ first-turn _ c.args.fins.now c.loop-fin.fin-index _ _ (omega arith) c.loop-fin.invariant c.pcurve_refusal.ensures
