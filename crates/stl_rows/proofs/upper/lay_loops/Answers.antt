-- `stl_rows::upper::lay_loops` meets its contract: a turn of the loop is one record more. Assumes nothing.
use Rattle.std.specs.Prelude.{ℕ, ◌≡◌, length}
use Rattle.std.proofs.Common.{arith, ap, ◌∙◌}
use Rattle.stl_rows.specs.Rows.{words_behind, loop_row}
use Rattle.stl_rows.specs.Laws.{grown-none, grown-space, grown-more, loop-length}
use Rattle.stl_rows.proofs.upper.lay_loops.Goals as goal

pub loop-k-init : goal.loop-k-init
loop-k-init c = grown-none c.args.room.now 4 (loop_row c.args.face c.args.fin) c.args.words.now

pub loop_row-row-requires : goal.loop_row-row-requires
loop_row-row-requires c =
    let s = c in
    (s.requires.face_bound.0, s.requires.face_bound.1, omega (arith, s.requires.space.slots, s.requires.space.few))

pub append-requires : goal.append-requires
append-requires c =
    let s = c in
    let loop = c.loop-k in
    let e : length c.loop_row-row.result ≡ 5 = ap length c.loop_row-row.ensures ∙ loop-length s.args.face s.args.fin loop.k in
    record { space = grown-space s.args.room.now 4 (loop_row s.args.face s.args.fin) s.args.words.now s.args.n loop.k loop.words s.requires.space loop.invariant (omega arith); row_len_bound = omega arith }

pub loop-k-preserved : goal.loop-k-preserved
loop-k-preserved c =
    let s = c in
    let loop = c.loop-k in
    let row = c.loop_row-row in
    let append = c.append in
    let e : length (loop_row s.args.face s.args.fin loop.k) ≡ 5 = loop-length s.args.face s.args.fin loop.k in
    grown-more s.args.room.now 4 (loop_row s.args.face s.args.fin) s.args.words.now s.args.n loop.k loop.words append.new.words row.result s.requires.space loop.invariant
    (omega arith) row.ensures (omega arith) append.ensures

pub returns : goal.returns
returns c =
    let s = c in
    let all : c.loop-k.k ≡ s.args.n = omega arith in
    c.loop-k.invariant.words ∙ ap (λ (n : ℕ). words_behind s.args.room.now 4 (loop_row s.args.face s.args.fin) n s.args.words.now) all
