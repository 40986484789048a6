-- `stl_mesh_rows::lower::lay_edges` meets its contract: a turn of the loop is one edge more. Assumes nothing.
use Rattle.std.specs.Prelude.{ℕ, ◌≡◌, ◌+◌, ◌*◌}
use Rattle.std.proofs.Common.{arith, refl, ap, ◌∙◌}
use Rattle.stl_rows.specs.Rows.{words_behind}
use Rattle.stl_rows.specs.Facts.{flat_edge_row}
use Rattle.stl_rows.specs.Laws.{grown-none, grown-space, grown-more}
use Rattle.stl_mesh_rows.proofs.lower.lay_edges.Goals as goal

pub loop-k-init : goal.loop-k-init
loop-k-init c = grown-none c.args.room.now 6 (flat_edge_row c.args.vertex c.args.fin c.args.n c.args.edges.now c.args.ends.now) c.args.words.now

pub bounds-ends-k : goal.bounds-ends-k
bounds-ends-k c = let b = c.requires.below.long in omega arith

pub overflow_add-start : goal.overflow_add-start
overflow_add-start c =
    let s = c in
    let b = s.requires.below.below (2 * c.loop-k.k) (omega arith) in
    record { fits = omega (arith, s.requires.vertex_bound.0) }

pub bounds-ends-k-in-loop-k : goal.bounds-ends-k-in-loop-k
bounds-ends-k-in-loop-k c = let b = c.requires.below.long in omega arith

pub overflow_add-end-in-loop-k : goal.overflow_add-end-in-loop-k
overflow_add-end-in-loop-k c =
    let s = c in
    let b = s.requires.below.below (2 * c.loop-k.k + 1) (omega arith) in
    record { fits = omega (arith, s.requires.vertex_bound.0) }

pub overflow_cast-k : goal.overflow_cast-k
overflow_cast-k c = let s = c in omega (arith, s.requires.space.slots, s.requires.space.few)

pub lay_edge-requires : goal.lay_edge-requires
lay_edge-requires c =
    let s = c in
    let loop = c.loop-k in
    let row = flat_edge_row s.args.vertex s.args.fin s.args.n s.args.edges.now s.args.ends.now in record { space = grown-space s.args.room.now 6 row s.args.words.now s.args.e loop.k loop.words s.requires.space loop.invariant (omega arith); fin_bound = (s.requires.vertex_bound.1, s.requires.vertex_bound.2, s.requires.vertex_bound.3); edges_len_bound = s.requires.eight.eight loop.k s.args.fin (omega arith) }

pub loop-k-preserved : goal.loop-k-preserved
loop-k-preserved c =
    let s = c in
    let loop = c.loop-k in
    let laid = c.lay_edge in
    let row = flat_edge_row s.args.vertex s.args.fin s.args.n s.args.edges.now s.args.ends.now in
    let short = s.requires.eight.eight loop.k s.args.fin (omega arith) in
    grown-more s.args.room.now 6 row s.args.words.now s.args.e loop.k loop.words laid.new.words (row loop.k) s.requires.space loop.invariant (omega arith) refl (omega arith) laid.ensures

pub returns : goal.returns
returns c =
    let s = c in
    let all : c.loop-k.k ≡ s.args.e = omega arith in
    c.loop-k.invariant.words
    ∙ ap (λ (i : ℕ). words_behind s.args.room.now 6 (flat_edge_row s.args.vertex s.args.fin s.args.n s.args.edges.now s.args.ends.now) i s.args.words.now) all
