-- `stl_rows::upper::shell_row` meets its contract: a turn of the loop is one face more. Assumes nothing.
use Rattle.std.proofs.Common.{◌≡◌, refl, arith, ◌∙◌, length-set}
use Rattle.meaning.specs.Lists.{run}
use Rattle.stl_rows.specs.Laws.{shell-turn}
use Rattle.stl_rows.proofs.upper.shell_row.Goals as goal

pub loop-k-init : goal.loop-k-init
unfolding run
loop-k-init c = (refl, refl)

pub loop-k-preserved : goal.loop-k-preserved
loop-k-preserved c =
    let loop = c.loop-k in
    let so_far = loop.invariant in
    (shell-turn c.args.region c.args.n c.args.face loop.k loop.row so_far.0 (omega arith), length-set loop.row _ _ ∙ so_far.1)

pub returns : goal.returns
returns c =
    let all : c.loop-k.k ≡ c.args.n = omega arith in
    rw all at c.loop-k.invariant.0
