-- `split_stop_edge::parts::pcurves_stop` meets its contract. Assumes nothing.
use Rattle.std.proofs.Common.{sym, ap, ◌∙◌, arith}
use Rattle.meaning_list_laws.specs.Lists.{joined-none}
use Rattle.split_stop_parts.specs.Told.{row_told}
use Rattle.split_stop_parts.specs.Laws.{nothing-told, joined-more}
use Rattle.split_stop_edge.specs.EdgeRows.{pcurve_parts}
use Rattle.split_stop_edge.proofs.parts.pcurves_stop.Goals as goal

pub loop-fin-init : goal.loop-fin-init
loop-fin-init c = c.stop_at-stop.ensures ∙ nothing-told 3 ∙ ap (row_told 3) (sym (joined-none (pcurve_parts c.args.room.now c.args.words.now c.args.edge)))

pub loop-fin-preserved : goal.loop-fin-preserved
loop-fin-preserved c = c.first-stop.ensures ∙ joined-more 3 (pcurve_parts c.args.room.now c.args.words.now c.args.edge) c.args.fins.now c.loop-fin.fin-index _ _ (omega arith) c.loop-fin.invariant c.pcurve_stop.ensures
