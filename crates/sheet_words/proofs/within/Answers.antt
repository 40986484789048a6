-- `sheet_words::within` meets its contract. Assumes nothing.
use Rattle.std.proofs.Common.{rules}
use Rattle.sheet_words.specs.Laws.{within-below, within-above}
use Rattle.sheet_words.proofs.within.Goals as goal

pub returns-then-high-lt-NEGATIVE : goal.returns-then-high-lt-NEGATIVE
returns-then-high-lt-NEGATIVE c =
    let a = c.args in
    within-below a.high a.low a.stones c.below.result (search rules) c.if-high-lt-NEGATIVE.true c.below.ensures

pub returns : goal.returns
returns c =
    let a = c.args in
    within-above a.high a.low a.stones c.below-2.result (search rules) (search rules) c.if-high-lt-NEGATIVE.false c.below-2.ensures
