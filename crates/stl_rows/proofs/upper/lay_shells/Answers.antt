-- `stl_rows::upper::lay_shells` meets its contract: a turn of the loop is one shell more. Assumes nothing.
use Rattle.std.specs.Prelude.{ℕ, ◌≡◌, ◌+◌, length, take}
use Rattle.std.proofs.Common.{arith, ap, ◌∙◌}
use Rattle.meaning_list_laws.specs.Lists.{length_run}
use Rattle.stl_rows.specs.Rows.{words_behind, shell_row}
use Rattle.stl_rows.specs.Laws.{grown-none, grown-space, grown-more}
use Rattle.stl_rows.proofs.upper.lay_shells.Goals as goal

pub loop-k-init : goal.loop-k-init
loop-k-init c = grown-none c.args.room.now 2 (shell_row c.args.region c.args.face c.args.n) c.args.words.now

pub slice_bounds-append-end : goal.slice_bounds-append-end
slice_bounds-append-end c =
    let s = c in
    let l = length_run s.args.face s.args.n in
    let e = ap length c.shell_row-row.ensures in
    omega arith

pub append-requires : goal.append-requires
append-requires c =
    let s = c in
    let loop = c.loop-k in
    let l = length_run s.args.face s.args.n in
    let e : length (take (2 + s.args.n) c.shell_row-row.result) ≡ length (shell_row s.args.region s.args.face s.args.n loop.k) = ap length c.shell_row-row.ensures in
    record { space = grown-space s.args.room.now 2 (shell_row s.args.region s.args.face s.args.n) s.args.words.now 2 loop.k loop.words s.requires.space loop.invariant (omega arith); row_len_bound = omega arith }

pub loop-k-preserved : goal.loop-k-preserved
loop-k-preserved c =
    let s = c in
    let loop = c.loop-k in
    let row = c.shell_row-row in
    let append = c.append in
    let l = length_run s.args.face s.args.n in
    grown-more s.args.room.now 2 (shell_row s.args.region s.args.face s.args.n) s.args.words.now 2 loop.k loop.words append.new.words (take (2 + s.args.n) row.result) s.requires.space loop.invariant
    (omega arith) row.ensures (omega arith) append.ensures

pub returns : goal.returns
returns c =
    let s = c in
    let all : c.loop-k.k ≡ 2 = omega arith in
    c.loop-k.invariant.words ∙ ap (λ (n : ℕ). words_behind s.args.room.now 2 (shell_row s.args.region s.args.face s.args.n) n s.args.words.now) all
