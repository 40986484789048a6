-- `stl_numbers::number_corners` meets its contract: a turn of the loop numbers one more corner. Assumes nothing.
use Rattle.std.specs.Prelude.{◌*◌, ◌≡◌, length}
use Rattle.std.proofs.Common.{arith, refl, sym, ◌∙◌}
use Rattle.stl_body.specs.Read.{stl_triangles, same_point, corners, nowhere}
use Rattle.stl_body.proofs.Meshes.{finite-themselves}
use Rattle.stl_numbers.specs.Laid.{points-laid}
use Rattle.stl_numbers.specs.Corners.{read_length, read-nth}
use Rattle.stl_numbers.specs.Turns.{turned_none, turned-within, turned_more, turned-all}
use Rattle.stl_numbers.proofs.number_corners.Goals as goal

pub loop-k-init : goal.loop-k-init
loop-k-init c = turned_none same_point points-laid (corners (stl_triangles c.args.bytes.now)) c.args.numbers.now c.args.points.now

pub overflow_cast-numbers : goal.overflow_cast-numbers
overflow_cast-numbers c = let h = turned-within same_point points-laid c.corner_at-p.result c.loop-k.many c.point_place-at.result c.loop-k.points c.point_place-at.ensures in omega arith

pub loop-k-preserved : goal.loop-k-preserved
loop-k-preserved c =
    let asked = c in
    let turn = asked.loop-k in
    let start = asked in
    let s = start.args in
    let l = corners (stl_triangles s.bytes.now) in
    let long : length l ≡ 3 * s.n = read_length s.bytes.now s.n start.requires.counted in
    let here = read-nth s.bytes.now s.n turn.k _ nowhere start.requires.counted (omega arith) refl ∙ sym asked.corner_at-p.ensures in
    let found = c.point_place-at in
    let stored = c.keep_point-many in
    turned_more same_point points-laid l s.numbers.now turn.numbers s.points.now turn.points _ turn.many stored.result turn.k found.result nowhere asked.corner_at-p.result
    turn.invariant (finite-themselves l start.requires.finite) (omega arith) here found.ensures (omega arith) (omega arith) stored.ensures.value stored.ensures.points_after

pub returns : goal.returns
returns c =
    let turn = c.loop-k in
    let start = c in
    let s = start.args in
    let l = corners (stl_triangles s.bytes.now) in
    let long : length l ≡ 3 * s.n = read_length s.bytes.now s.n start.requires.counted in
    turned-all same_point points-laid l s.numbers.now turn.numbers s.points.now turn.points turn.many _ turn.invariant (omega arith)
