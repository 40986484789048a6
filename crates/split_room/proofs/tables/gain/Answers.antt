-- `split_room::tables::gain` meets its contract. Assumes nothing.
use Rattle.std.specs.Prelude.{◌≤◌, cond, eqb}
use Rattle.std.proofs.Common.{refl, ap, ◌∙◌, arith}
use Rattle.meaning.specs.Lists.{count_if}
use Rattle.split_fins.specs.Laws.{one-le}
use Rattle.split_place.specs.Place.{owned_by}
use Rattle.split_place.specs.Laws.{count_if-turn}
use Rattle.split_room.proofs.tables.gain.Goals as goal

pub loop-fin-init : goal.loop-fin-init
unfolding count_if
loop-fin-init c = (omega arith, refl)

pub owner_of-requires : goal.owner_of-requires
owner_of-requires c = record { lists = c.requires.lists; fin_bound = c.requires.owned.there c.loop-fin.fin-index (omega arith) }

pub overflow_add-n : goal.overflow_add-n
overflow_add-n c = let o : c.one_if-n.result ≤ 1 = rw c.one_if-n.ensures (one-le (eqb c.owner_of.result c.args.owner)) in omega arith

pub loop-fin-preserved : goal.loop-fin-preserved
unfolding owned_by
loop-fin-preserved c =
    let o : c.one_if-n.result ≤ 1 = rw c.one_if-n.ensures (one-le (eqb c.owner_of.result c.args.owner)) in
    (omega arith, count_if-turn _ c.args.fins.now c.loop-fin.fin-index _ _ (omega arith) c.loop-fin.invariant.1 (c.one_if-n.ensures ∙ ap (λ l. cond (eqb l c.args.owner) 1 0) c.owner_of.ensures))
