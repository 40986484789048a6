-- `stl_mesh_rows::lower::lay_fins` meets its contract: a turn of the loop is one triangle more. Assumes nothing.
use Rattle.std.specs.Prelude.{ℕ, ◌≡◌, ◌+◌, ◌*◌}
use Rattle.std.proofs.Common.{arith, ap, ◌∙◌}
use Rattle.stl_rows.specs.Rows.{words_behind}
use Rattle.stl_rows.specs.Facts.{flat_fin_row}
use Rattle.stl_rows.specs.Laws.{grown-none, grown-rest}
use Rattle.stl_mesh_rows.specs.Flats.{triangle-more, below-front}
use Rattle.stl_mesh_rows.proofs.lower.lay_fins.Goals as goal

pub loop-j-init : goal.loop-j-init
loop-j-init c = grown-none c.args.room.now 5 (flat_fin_row c.args.first c.args.edge c.args.n c.args.numbers.now c.args.edges.now) c.args.words.now

pub overflow_cast-j : goal.overflow_cast-j
overflow_cast-j c = let s = c in omega (arith, s.requires.space.slots, s.requires.space.few)

pub overflow_add-first : goal.overflow_add-first
overflow_add-first c = let s = c in record { fits = omega (arith, s.requires.space.slots, s.requires.space.few, s.requires.first_bound.0) }

pub overflow_mul-j : goal.overflow_mul-j
overflow_mul-j c = let s = c in record { fits = omega (arith, s.requires.space.slots, s.requires.space.few) }

pub lay_triangle-requires : goal.lay_triangle-requires
lay_triangle-requires c =
    let s = c in
    let loop = c.loop-j in
    let row = flat_fin_row s.args.first s.args.edge s.args.n s.args.numbers.now s.args.edges.now in
    let space = s.requires.space in
    let a = space.slots in
    let b = space.few in
    let l = s.requires.first_bound.2 in record { space = grown-rest s.args.room.now 5 row s.args.words.now (3 * s.args.n) (3 * loop.j) 3 loop.words space loop.invariant (omega arith); edge_bound = (s.requires.first_bound.1, omega arith, omega arith); below = below-front s.args.edges.now (3 * s.args.n) (3 * loop.j + 3) 4096 s.requires.below (omega arith) }

pub loop-j-preserved : goal.loop-j-preserved
loop-j-preserved c =
    let s = c in
    let loop = c.loop-j in
    let laid = c.lay_triangle in
    triangle-more s.args.room.now s.args.words.now s.args.first s.args.edge s.args.n s.args.numbers.now s.args.edges.now loop.j loop.words laid.new.words
    s.requires.space (omega arith) loop.invariant laid.ensures

pub returns : goal.returns
returns c =
    let s = c in
    let all : c.loop-j.j ≡ s.args.n = omega arith in
    c.loop-j.invariant.words
    ∙ ap (λ (i : ℕ). words_behind s.args.room.now 5 (flat_fin_row s.args.first s.args.edge s.args.n s.args.numbers.now s.args.edges.now) (3 * i) s.args.words.now) all
