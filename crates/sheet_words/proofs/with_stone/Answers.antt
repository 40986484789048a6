-- `sheet_words::with_stone` meets its contract. Assumes nothing.
use lib.IntN.{sub_ℕ}
use Rattle.std.proofs.Common.{rules}
use Rattle.sheet_words.specs.Laws.{new-largest, held-largest}
use Rattle.sheet_words.proofs.with_stone.Goals as goal

pub returns-then-s-is_larger : goal.returns-then-s-is_larger
returns-then-s-is_larger c =
    let a = c.args in
    new-largest a.s c.moved-total.result a.body (sub_ℕ a.plus a.minus)
    c.is_larger.result c.moved-total.ensures c.is_larger.ensures
    c.word_of.result c.if-s-is_larger.true c.word_of.ensures

pub returns : goal.returns
returns c =
    let a = c.args in
    held-largest a.s c.moved-total.result a.body (sub_ℕ a.plus a.minus)
    c.is_larger.result c.moved-total.ensures c.is_larger.ensures
    (search rules) c.if-s-is_larger.false
