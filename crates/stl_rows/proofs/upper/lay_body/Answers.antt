-- `stl_rows::upper::lay_body` meets its contract: one record. Assumes nothing.
use native.Mathlib.Omega.{arith}
use mathlib.Core.Path.{◌≡◌, ap, ◌∙◌}
use lib.ListN.{length}
use Rattle.stl_rows.specs.Rows.{appended_words, words_behind}
use Rattle.stl_rows.specs.Laws.{body-length}
use Rattle.stl_rows.proofs.upper.lay_body.Goals as goal

pub append-requires : goal.append-requires
append-requires c =
    let s = c in
    let e : length c.body_row-row.result ≡ 5 = ap length c.body_row-row.ensures ∙ body-length s.args.office s.args.region 0 in
    record { space = s.requires.space; row_len_bound = omega arith }

pub returns : goal.returns
unfolding words_behind
returns c =
    let s = c in
    c.append.ensures ∙ ap (λ f. appended_words s.args.room.now 0 f s.args.words.now) c.body_row-row.ensures
