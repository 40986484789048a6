-- `course_stones::with_stone` meets its contract. Assumes nothing.
use mathlib.Core.Path.{ap, ◌∙◌}
use Rattle.geom_lines_planes.specs.Refuse.{◌then◌}
use Rattle.course_stones.specs.Laws.{stone-refused, stone-added, has_room}
use native.Mathlib.Omega.{arith}
use Rattle.course_stones.proofs.with_stone.Goals as goal

pub returns-then-n-ne0 : goal.returns-then-n-ne0
returns-then-n-ne0 c =
    let s = c in
    stone-refused s.args.s s.args.refused _ _ c.then-n.result (c.then-n.ensures ∙ ap (λ i. s.args.refused then i) c.unless.ensures) c.if-n-ne0.true _ c.then.ensures

pub overflow_add-result : goal.overflow_add-result
overflow_add-result c =
    let s = c in
    let h = has_room s.args.s s.args.refused 0 0 c.then-n.result (c.then-n.ensures ∙ ap (λ i. s.args.refused then i) c.unless.ensures) c.if-n-ne0.false in
    omega arith

pub returns : goal.returns
returns c =
    let s = c in
    stone-added s.args.s s.args.refused _ _ c.then-n.result (c.then-n.ensures ∙ ap (λ i. s.args.refused then i) c.unless.ensures) c.if-n-ne0.false _ c.moved-t.ensures
