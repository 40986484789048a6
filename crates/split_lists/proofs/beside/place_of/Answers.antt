-- `split_lists::beside::place_of` meets its contract. Assumes nothing.
use Rattle.std.specs.Prelude.{◌≡◌, length}
use Rattle.std.proofs.Common.{◌∙◌, arith}
use Rattle.split_lists.specs.BesideLaws.{place-hit, place-miss, place_end}
use Rattle.split_lists.proofs.beside.place_of.Goals as goal

pub returns-then-x-id : goal.returns-then-x-id
returns-then-x-id c = place-hit c.args.x c.args.s.now c.loop-j.j (omega arith) c.if-x-id.true c.loop-j.invariant

pub loop-j-preserved : goal.loop-j-preserved
loop-j-preserved c = place-miss c.args.x c.args.s.now c.loop-j.j (omega arith) c.if-x-id.false c.loop-j.invariant

pub returns : goal.returns
returns c =
    let done : length c.args.s.now ≡ c.loop-j.j = omega arith in
    done ∙ place_end c.args.x c.args.s.now c.loop-j.j (omega arith) c.loop-j.invariant
