-- `sheet_words::lowered` meets its contract. Assumes nothing.
use Rattle.std.proofs.Common.{rules}
use Rattle.sheet_words.specs.Laws.{lowered-plain, lowered-borrow}
use Rattle.sheet_words.proofs.lowered.Goals as goal

pub returns-then-low-by : goal.returns-then-low-by
returns-then-low-by c =
    let a = c.args in
    lowered-borrow a.high a.low a.by (search rules) (search rules) (search rules)
    c.wrapping_sub_u64.result c.wrapping_sub_u64-then-low-by.result (search rules) (search rules)
    c.if-low-by.true c.wrapping_sub_u64.ensures.value c.wrapping_sub_u64-then-low-by.ensures.value

pub returns : goal.returns
returns c =
    let a = c.args in
    lowered-plain a.high a.low a.by (search rules) (search rules) (search rules) c.if-low-by.false
