-- `sheet_words::is_larger` meets its contract. Assumes nothing.
use Rattle.std.proofs.Common.{rules}
use Rattle.sheet_words.specs.Laws.{larger-than, larger-than-negative}
use Rattle.sheet_words.proofs.is_larger.Goals as goal

pub returns-then-held-lt-NEGATIVE : goal.returns-then-held-lt-NEGATIVE
returns-then-held-lt-NEGATIVE c =
    let a = c.args in
    larger-than a.held a.plus a.minus c.if-held-lt-NEGATIVE.true

pub returns : goal.returns
returns c =
    let a = c.args in
    larger-than-negative a.held a.plus a.minus c.if-held-lt-NEGATIVE.false
