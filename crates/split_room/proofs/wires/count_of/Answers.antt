-- `split_room::wires::count_of` meets its contract. Assumes nothing.
use Rattle.std.specs.Prelude.{◌≤◌, eqb, get_or}
use Rattle.std.proofs.Common.{sym, arith}
use Rattle.meaning_list_laws.specs.Lists.{count_none}
use Rattle.split_fins.specs.Laws.{one-le, count_turn}
use Rattle.split_room.proofs.wires.count_of.Goals as goal

pub loop-id-init : goal.loop-id-init
loop-id-init c = (omega arith, sym (count_none _))

pub overflow_add-n : goal.overflow_add-n
overflow_add-n c = let o : c.one_if-n.result ≤ 1 = rw c.one_if-n.ensures (one-le (eqb c.args.x (get_or c.args.s.now c.loop-id.id-index 0))) in omega arith

pub loop-id-preserved : goal.loop-id-preserved
loop-id-preserved c =
    let o : c.one_if-n.result ≤ 1 = rw c.one_if-n.ensures (one-le (eqb c.args.x (get_or c.args.s.now c.loop-id.id-index 0))) in
    (omega arith, count_turn _ c.args.s.now c.loop-id.id-index _ _ (omega arith) c.loop-id.invariant.1 c.one_if-n.ensures)
