-- `stl_rows::upper::lay_faces` meets its contract: a turn of the loop is one record more. Assumes nothing.
use Rattle.std.specs.Prelude.{ℕ, ◌≡◌, length}
use Rattle.std.proofs.Common.{arith, refl, ap, ◌∙◌}
use Rattle.stl_rows.specs.Rows.{words_behind, face_row}
use Rattle.stl_rows.specs.Laws.{grown-none, grown-space, grown-more}
use Rattle.stl_rows.proofs.upper.lay_faces.Goals as goal

pub loop-k-init : goal.loop-k-init
loop-k-init c = grown-none c.args.room.now 3 (face_row c.args.shell c.args.first) c.args.words.now

pub face_row-row-requires : goal.face_row-row-requires
face_row-row-requires c =
    let s = c in
    (s.requires.shell_bound.0, s.requires.shell_bound.1, omega (arith, s.requires.space.slots, s.requires.space.few))

pub append-requires : goal.append-requires
append-requires c =
    let s = c in
    let loop = c.loop-k in
    let e : length c.face_row-row.result ≡ 9 = ap length c.face_row-row.ensures in
    record { space = grown-space s.args.room.now 3 (face_row s.args.shell s.args.first) s.args.words.now s.args.n loop.k loop.words s.requires.space loop.invariant (omega arith); row_len_bound = omega arith }

pub loop-k-preserved : goal.loop-k-preserved
loop-k-preserved c =
    let s = c in
    let loop = c.loop-k in
    let row = c.face_row-row in
    let append = c.append in
    let e : length (face_row s.args.shell s.args.first loop.k) ≡ 9 = refl in
    grown-more s.args.room.now 3 (face_row s.args.shell s.args.first) s.args.words.now s.args.n loop.k loop.words append.new.words row.result s.requires.space loop.invariant
    (omega arith) row.ensures (omega arith) append.ensures

pub returns : goal.returns
returns c =
    let s = c in
    let all : c.loop-k.k ≡ s.args.n = omega arith in
    c.loop-k.invariant.words ∙ ap (λ (n : ℕ). words_behind s.args.room.now 3 (face_row s.args.shell s.args.first) n s.args.words.now) all
