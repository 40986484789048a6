-- `sheet_words::moved` meets its contract. Assumes nothing.
use Rattle.std.proofs.Common.{◌+◌, ◌*◌, ◌^◌, ap, ◌∙◌, rules}
use Rattle.sheet_words.specs.Words.{as_signed}
use Rattle.sheet_words.specs.Totals.{words_of_total}
use Rattle.sheet_words.specs.Laws.{moved_down, moved_up}
use Rattle.sheet_words.proofs.moved.Goals as goal

pub returns-then-plus-minus : goal.returns-then-plus-minus
returns-then-plus-minus c =
    let a = c.args in
    c.lowered.ensures ∙ ap words_of_total (moved_down (as_signed (2 ^ 127) (a.high * 2 ^ 64 + a.low)) a.plus a.minus c.if-plus-minus.true)

pub returns : goal.returns
returns c =
    let a = c.args in
    c.raised.ensures ∙ ap words_of_total (moved_up (as_signed (2 ^ 127) (a.high * 2 ^ 64 + a.low)) a.plus a.minus c.if-plus-minus.false)
