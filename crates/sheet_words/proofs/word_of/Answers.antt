-- `sheet_words::word_of` meets its contract. Assumes nothing.
use Rattle.std.proofs.Common.{rules}
use Rattle.sheet_words.specs.Laws.{word-of-sub}
use Rattle.sheet_words.proofs.word_of.Goals as goal

pub returns : goal.returns
returns c =
    let a = c.args in
    word-of-sub a.plus a.minus c.wrapping_sub_u64.result (search rules) (search rules) (search rules) c.wrapping_sub_u64.ensures.value
