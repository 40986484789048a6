-- `stl_numbers::edges_fit` meets its contract: a turn of the loop is one more test. Assumes nothing.
use Rattle.std.specs.Prelude.{leb, take}
use Rattle.std.proofs.Common.{sym, ap}
use Rattle.meaning_list_laws.specs.Tests.{all_below-none, all_below-turn}
use Rattle.stl_numbers.specs.Numbered.{few}
use Rattle.stl_numbers.proofs.edges_fit.Goals as goal

pub loop-e-init : goal.loop-e-init
loop-e-init c = sym (all_below-none (few (take c.args.fins c.args.edges.now)))

pub loop-e-preserved : goal.loop-e-preserved
loop-e-preserved c =
    let s = c.args in
    all_below-turn (few (take s.fins s.edges.now)) c.loop-e.e _ _ c.loop-e.invariant (ap (λ n. leb n 8) c.fins_along.ensures)
