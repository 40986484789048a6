-- `stl_numbers::fins_along` meets its contract: a turn of the loop counts one more or none. Assumes nothing.
use Rattle.std.specs.Prelude.{◌+◌, cond, get_or, take}
use Rattle.std.proofs.Common.{arith, sym, ap}
use borrow.Author.Tests.{eq-eqb, ne_eqb}
use Rattle.meaning.specs.Lists.{count}
use Rattle.meaning_list_laws.specs.Lists.{count_none}
use Rattle.stl_numbers.specs.Corners.{count-more}
use Rattle.stl_numbers.proofs.fins_along.Goals as goal
use Rattle.stl_numbers.proofs.fins_along.Goals.{then-e-edge, else-e-edge}

pub loop-edge-init : goal.loop-edge-init
loop-edge-init c = (omega arith, sym (count_none _))

pub loop-edge-preserved : goal.loop-edge-preserved
loop-edge-preserved c =
    let e = c.args.e in
    let l = take c.args.fins c.args.edges.now in
    let i = c.loop-edge.edge-index in
    let more = count-more e i l (omega arith) in
    elim c.if-e-edge.branch [
      | then-e-edge w ↦ (let one = ap (λ b. count e (take i l) + cond b 1 0) (eq-eqb e (get_or l i 0) w.if-e-edge.true) in (omega arith, omega arith))
      | else-e-edge w ↦ (let none = ap (λ b. count e (take i l) + cond b 1 0) (ne_eqb e (get_or l i 0) w.if-e-edge.false) in (omega arith, omega arith))
    ]
