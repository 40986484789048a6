-- `stl_numbers::edge_place` meets its contract: a turn of the loop passes one more. Assumes nothing.
use Rattle.std.proofs.Common.{◌≡◌, sym, ◌∙◌, arith}
use Rattle.stl_body.specs.Read.{same_step}
use Rattle.stl_numbers.specs.Numbered.{step_in}
use Rattle.stl_numbers.specs.Corners.{step-at}
use Rattle.stl_numbers.specs.Laid.{search-none, search-here, search-more, search-all}
use Rattle.stl_numbers.proofs.edge_place.Goals as goal

pub loop-i-init : goal.loop-i-init
loop-i-init c = search-none same_step step_in 2 _ c.args.many c.args.ends.now

pub returns-then-e-ends : goal.returns-then-e-ends
returns-then-e-ends c =
    let s = c.args in
    let i = c.loop-i.i in
    search-here same_step step_in 2 _ s.many s.ends.now i _ c.loop-i.invariant (omega arith) (sym (step-at i s.ends.now)) c.if-e-ends.true

pub loop-i-preserved : goal.loop-i-preserved
loop-i-preserved c =
    let s = c.args in
    let i = c.loop-i.i in
    search-more same_step step_in 2 _ s.many s.ends.now i _ c.loop-i.invariant (omega arith) (sym (step-at i s.ends.now)) c.if-e-ends.false

pub returns : goal.returns
returns c =
    let done : c.args.many ≡ c.loop-i.i = omega arith in
    done ∙ search-all same_step step_in 2 _ c.args.many c.args.ends.now c.loop-i.i c.loop-i.invariant (omega arith)
