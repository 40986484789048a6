-- `stl_mesh_rows::floats::lay_points` meets its contract: a turn of the loop is one record's floats. Assumes nothing.
use Rattle.std.specs.Prelude.{ℕ, ◌≡◌, ◌+◌, length}
use Rattle.std.proofs.Common.{arith, refl, ap, ◌∙◌}
use Rattle.stl_rows.specs.Rows.{reals_behind}
use Rattle.memory_writes.specs.Put.{put_reals}
use Rattle.stl_rows.specs.Facts.{flat_vertex_floats}
use Rattle.stl_rows.specs.Laws.{reals-more}
use Rattle.stl_mesh_rows.proofs.floats.lay_points.Goals as goal

pub loop-k-init : goal.loop-k-init
unfolding reals_behind
loop-k-init c = refl

pub point_row-row-requires : goal.point_row-row-requires
point_row-row-requires c =
    let s = c in
    let p = s.requires.float_space in
    let l = s.requires.v_in_bounds in
    (omega (arith, p.slots, p.few), omega arith)

pub overflow_add-first : goal.overflow_add-first
overflow_add-first c = let p = c.requires.float_space in record { fits = omega (arith, p.slots, p.few) }

pub put_reals-requires : goal.put_reals-requires
put_reals-requires c =
    let s = c in
    let p = s.requires.float_space in
    let loop = c.loop-k in
    record { small = p.small; inside = record { enough = omega (arith, p.reals); table = p.table; slot = omega (arith, p.slots) }; a_len = ap length c.point_row-row.ensures }

pub loop-k-preserved : goal.loop-k-preserved
loop-k-preserved c =
    let s = c in
    let loop = c.loop-k in
    let put = c.put_reals in
    reals-more s.args.room.now 7 s.args.first (flat_vertex_floats s.args.points.now) s.args.reals.now loop.k loop.reals put.new.reals loop.invariant (put.ensures ∙ ap (λ l. put_reals s.args.room.now 7 (s.args.first + loop.k) l loop.reals) c.point_row-row.ensures)

pub returns : goal.returns
returns c =
    let s = c in
    let all : c.loop-k.k ≡ s.args.v = omega arith in
    c.loop-k.invariant ∙ ap (λ (n : ℕ). reals_behind s.args.room.now 7 s.args.first (flat_vertex_floats s.args.points.now) n s.args.reals.now) all
