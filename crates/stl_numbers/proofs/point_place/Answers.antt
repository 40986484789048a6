-- `stl_numbers::point_place` meets its contract: a turn of the loop passes one more. Assumes nothing.
use Rattle.std.proofs.Common.{◌≡◌, sym, ◌∙◌, arith}
use Rattle.stl_body.specs.Read.{same_point}
use Rattle.stl_numbers.specs.Numbered.{point_in}
use Rattle.stl_numbers.specs.Laid.{search-none, search-here, search-more, search-all}
use Rattle.stl_numbers.proofs.point_place.Goals as goal

pub loop-i-init : goal.loop-i-init
loop-i-init c = search-none same_point point_in 3 c.args.p c.args.many c.args.points.now

pub returns-then-same_point : goal.returns-then-same_point
returns-then-same_point c =
    let s = c.args in
    search-here same_point point_in 3 s.p s.many s.points.now c.loop-i.i _ c.loop-i.invariant (omega arith) (sym c.point_at-q.ensures) (sym c.same_point.ensures ∙ c.if-same_point.true)

pub loop-i-preserved : goal.loop-i-preserved
loop-i-preserved c =
    let s = c.args in
    search-more same_point point_in 3 s.p s.many s.points.now c.loop-i.i _ c.loop-i.invariant (omega arith) (sym c.point_at-q.ensures) (sym c.same_point.ensures ∙ c.if-same_point.false)

pub returns : goal.returns
returns c =
    let done : c.args.many ≡ c.loop-i.i = omega arith in
    done ∙ search-all same_point point_in 3 c.args.p c.args.many c.args.points.now c.loop-i.i c.loop-i.invariant (omega arith)
