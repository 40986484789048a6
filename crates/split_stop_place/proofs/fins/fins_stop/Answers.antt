-- `split_stop_place::fins::fins_stop` meets its contract. Assumes nothing.
use Rattle.std.specs.Prelude.{get_or}
use Rattle.std.proofs.Common.{take, ap, ◌∙◌, arith}
use Rattle.split_fin_tests.specs.declared.faces.Cut.{Cut}
use Rattle.split_stop_place.specs.FinRows.{fin_told}
use Rattle.split_stop_place.specs.Laws.{fins-none, fins-more}
use Rattle.split_stop_place.proofs.fins.fins_stop.Goals as goal

pub loop-k-init : goal.loop-k-init
loop-k-init c t q = c.stop_at-stop.ensures ∙ fins-none c.args.room.now c.args.words.now c.args.reals.now c.args.edge t

pub loop-k-preserved : goal.loop-k-preserved
loop-k-preserved c t q =
    c.first-stop.ensures
    ∙ fins-more c.args.room.now c.args.words.now c.args.reals.now c.args.edge t c.args.fins.now c.loop-k.k _ _ (omega arith) (c.loop-k.invariant t q)
    (c.fin_stop.ensures ∙ ap (λ (z : Cut). fin_told c.args.room.now c.args.words.now c.args.reals.now c.args.edge z (take c.loop-k.k c.args.fins.now) (get_or c.args.fins.now c.loop-k.k 0)) q)
