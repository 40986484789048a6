-- `stl_mesh_rows::floats::lay_tolerances` meets its contract: a turn of the loop is one record's floats. Assumes nothing.
use Rattle.std.specs.Prelude.{ℕ, ◌≡◌}
use Rattle.std.proofs.Common.{arith, refl, ap, ◌∙◌}
use lib.Ieee.{of_bits}
use Rattle.stl_rows.specs.Rows.{reals_behind, edge_floats}
use Rattle.stl_rows.specs.Laws.{reals-more}
use Rattle.stl_mesh_rows.proofs.floats.lay_tolerances.Goals as goal

pub loop-k-init : goal.loop-k-init
unfolding reals_behind
loop-k-init c = refl

pub overflow_add-first : goal.overflow_add-first
overflow_add-first c = let p = c.requires in record { fits = omega (arith, p.slots, p.few) }

pub put_reals-requires : goal.put_reals-requires
put_reals-requires c =
    let s = c in
    let p = s.requires in
    let loop = c.loop-k in
    record { small = p.small; inside = record { enough = omega (arith, p.reals); table = p.table; slot = omega (arith, p.slots) }; a_len = refl }

pub loop-k-preserved : goal.loop-k-preserved
unfolding of_bits
loop-k-preserved c =
    let s = c in
    let loop = c.loop-k in
    let put = c.put_reals in
    reals-more s.args.room.now 6 s.args.first edge_floats s.args.reals.now loop.k loop.reals put.new.reals loop.invariant put.ensures

pub returns : goal.returns
returns c =
    let s = c in
    let all : c.loop-k.k ≡ s.args.e = omega arith in
    c.loop-k.invariant ∙ ap (λ (n : ℕ). reals_behind s.args.room.now 6 s.args.first edge_floats n s.args.reals.now) all
