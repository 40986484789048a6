-- `stl_rows::upper::lay_regions` meets its contract: a turn of the loop is one record more. Assumes nothing.
use Rattle.std.specs.Prelude.{ℕ, ◌≡◌, length}
use Rattle.std.proofs.Common.{arith, refl, ap, ◌∙◌}
use Rattle.stl_rows.specs.Rows.{words_behind, region_row}
use Rattle.stl_rows.specs.Laws.{grown-none, grown-space, grown-more}
use Rattle.stl_rows.proofs.upper.lay_regions.Goals as goal

pub loop-k-init : goal.loop-k-init
loop-k-init c = grown-none c.args.room.now 1 (region_row c.args.body c.args.shell) c.args.words.now

pub region_row-row-requires : goal.region_row-row-requires
region_row-row-requires c =
    let s = c in
    (s.requires.shell_bound, omega (arith, s.requires.space.slots, s.requires.space.few))

pub append-requires : goal.append-requires
append-requires c =
    let s = c in
    let loop = c.loop-k in
    let e : length c.region_row-row.result ≡ 4 = ap length c.region_row-row.ensures in
    record { space = grown-space s.args.room.now 1 (region_row s.args.body s.args.shell) s.args.words.now 2 loop.k loop.words s.requires.space loop.invariant (omega arith); row_len_bound = omega arith }

pub loop-k-preserved : goal.loop-k-preserved
loop-k-preserved c =
    let s = c in
    let loop = c.loop-k in
    let row = c.region_row-row in
    let append = c.append in
    let e : length (region_row s.args.body s.args.shell loop.k) ≡ 4 = refl in
    grown-more s.args.room.now 1 (region_row s.args.body s.args.shell) s.args.words.now 2 loop.k loop.words append.new.words row.result s.requires.space loop.invariant
    (omega arith) row.ensures (omega arith) append.ensures

pub returns : goal.returns
returns c =
    let s = c in
    let all : c.loop-k.k ≡ 2 = omega arith in
    c.loop-k.invariant.words ∙ ap (λ (n : ℕ). words_behind s.args.room.now 1 (region_row s.args.body s.args.shell) n s.args.words.now) all
