-- `sheet_words::below` meets its contract. Assumes nothing.
use Rattle.std.proofs.Common.{rules}
use Rattle.sheet_words.specs.Laws.{below_equal, below_other}
use Rattle.sheet_words.proofs.below.Goals as goal

pub returns-then-high-top : goal.returns-then-high-top
returns-then-high-top c =
    let a = c.args in
    below_equal a.high a.low a.top a.rest c.if-high-top.true

pub returns : goal.returns
returns c =
    let a = c.args in
    below_other a.high a.low a.top a.rest (search rules) (search rules) c.if-high-top.false
