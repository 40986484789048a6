-- `stl_mesh_rows::lower::lay_vertices` meets its contract: a turn of the loop is one vertex more. Assumes nothing.
use Rattle.std.specs.Prelude.{ℕ, ◌≡◌, [], ◌∷◌}
use Rattle.std.proofs.Common.{arith, refl, ap, ◌∙◌}
use Rattle.stl_rows.specs.Rows.{words_behind, vertex_row}
use Rattle.stl_rows.specs.Laws.{grown-none, grown-space, grown-more}
use Rattle.stl_mesh_rows.proofs.lower.lay_vertices.Goals as goal

pub loop-init : goal.loop-init
loop-init c = grown-none c.args.room.now 7 vertex_row c.args.words.now

pub append-requires : goal.append-requires
append-requires c =
    let s = c in
    let loop = c.loop in
    record { space = grown-space s.args.room.now 7 vertex_row s.args.words.now s.args.v loop.counter loop.words s.requires loop.invariant (omega arith); row_len_bound = omega arith }

pub loop-preserved : goal.loop-preserved
loop-preserved c =
    let s = c in
    let loop = c.loop in
    let append = c.append in
    grown-more s.args.room.now 7 vertex_row s.args.words.now s.args.v loop.counter loop.words append.new.words (0 ∷ []) s.requires loop.invariant
    (omega arith) refl (omega arith) append.ensures

pub returns : goal.returns
returns c =
    let s = c in
    let all : c.loop.counter ≡ s.args.v = omega arith in
    c.loop.invariant.words ∙ ap (λ (n : ℕ). words_behind s.args.room.now 7 vertex_row n s.args.words.now) all
