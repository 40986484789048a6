-- `slab_edges::ids_tested` meets its contract. Assumes nothing.
use Rattle.std.proofs.Common.{sym, ◌∙◌, arith}
use Rattle.meaning_list_laws.specs.Tests.{first_of-none}
use Rattle.walk_marks.specs.Laws.{first-turn}
use Rattle.slab_edges.proofs.ids_tested.Goals as goal

pub loop-id-init : goal.loop-id-init
loop-id-init c = sym (first_of-none _)

pub loop-id-preserved : goal.loop-id-preserved
loop-id-preserved c = c.then-n.ensures ∙ first-turn _ c.args.ids.now c.loop-id.id-index _ _ (omega arith) c.loop-id.invariant c.id_tested.ensures
