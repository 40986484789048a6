-- `sheet_words::raised` meets its contract. Assumes nothing.
use Rattle.std.proofs.Common.{arith, rules}
use Rattle.sheet_words.specs.Laws.{raised-plain, raised-carry}
use Rattle.sheet_words.proofs.raised.Goals as goal

pub returns-then-low-by : goal.returns-then-low-by
returns-then-low-by c =
    let a = c.args in
    raised-carry a.high a.low a.by (search rules) (search rules) (search rules)
    c.wrapping_add_u64.result c.wrapping_add_u64-then-low-by.result (omega arith) c.wrapping_add_u64.ensures.value c.wrapping_add_u64-then-low-by.ensures.value

pub returns : goal.returns
returns c =
    let a = c.args in
    raised-plain a.high a.low a.by (search rules) (search rules) (search rules) (omega arith)
