-- `stl_numbers::number_edges` meets its contract: a turn of the loop numbers one more step's edge. Assumes nothing.
use Rattle.std.specs.Prelude.{◌*◌, ◌≡◌, length, map}
use Rattle.std.proofs.Common.{arith, sym, ◌∙◌}
use Rattle.stl_body.specs.Read.{step, same_step, edge_of}
use Rattle.stl_body.specs.Flat.{steps_in}
use Rattle.stl_body.proofs.Meshes.{all-themselves}
use Rattle.stl_numbers.specs.Laid.{steps-laid}
use Rattle.stl_numbers.specs.Corners.{after-below, edges-length, edge-nth}
use Rattle.stl_numbers.specs.Turns.{turned_none, turned-within, turned_more, turned-all}
use Rattle.stl_numbers.proofs.number_edges.Goals as goal

pub loop-k-init : goal.loop-k-init
loop-k-init c = turned_none same_step steps-laid (map edge_of (steps_in c.args.n c.args.numbers.now)) c.args.edges.now c.args.ends.now

pub edge_at-e-requires : goal.edge_at-e-requires
edge_at-e-requires c = let h = after-below c.args.n c.loop-k.k (omega arith) in record { k_bound = omega arith; k_in_bounds = omega arith; k_in_bounds_2 = omega arith }

pub overflow_cast-edges : goal.overflow_cast-edges
overflow_cast-edges c =
    let e = c.edge_at-e.result in
    let h = turned-within same_step steps-laid (step e.from e.to) c.loop-k.many c.edge_place-at.result c.loop-k.ends c.edge_place-at.ensures in
    omega arith

pub loop-k-preserved : goal.loop-k-preserved
loop-k-preserved c =
    let asked = c in
    let turn = asked.loop-k in
    let s = asked.args in
    let l = map edge_of (steps_in s.n s.numbers.now) in
    let e = asked.edge_at-e.result in
    let long : length l ≡ 3 * s.n = edges-length s.n s.numbers.now in
    let here = edge-nth s.n turn.k s.numbers.now (omega arith) ∙ sym asked.edge_at-e.ensures in
    let found = c.edge_place-at in
    let stored = c.keep_edge-many in
    turned_more same_step steps-laid l s.edges.now turn.edges s.ends.now turn.ends _ turn.many stored.result turn.k found.result (step 0 0) (step e.from e.to)
    turn.invariant (all-themselves l) (omega arith) here found.ensures (omega arith) (omega arith) stored.ensures.value stored.ensures.ends_after

pub returns : goal.returns
returns c =
    let turn = c.loop-k in
    let s = c.args in
    let l = map edge_of (steps_in s.n s.numbers.now) in
    let long : length l ≡ 3 * s.n = edges-length s.n s.numbers.now in
    turned-all same_step steps-laid l s.edges.now turn.edges s.ends.now turn.ends turn.many _ turn.invariant (omega arith)
