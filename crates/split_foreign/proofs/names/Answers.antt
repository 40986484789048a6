-- `split_foreign::names` meets its contract. Assumes nothing.
use Rattle.std.proofs.Common.{refl, sym, arith}
use Rattle.meaning_list_laws.specs.Lists.{member-none}
use Rattle.walk_marks.specs.Laws.{member-turn}
use Rattle.split_foreign.proofs.names.Goals as goal

pub loop-id-init : goal.loop-id-init
loop-id-init c = sym (member-none _)

pub loop-id-preserved : goal.loop-id-preserved
loop-id-preserved c = member-turn _ c.args.ids.now c.loop-id.id-index _ _ (omega arith) c.loop-id.invariant refl
