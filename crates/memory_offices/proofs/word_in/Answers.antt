-- `memory_offices::word_in` meets its contract. Assumes nothing.
use mathlib.Core.Path.{sym}
use borrow.Author.Rules.{rules}
use Rattle.memory_offices.specs.Laws.{word-behind}
use Rattle.memory_offices.proofs.word_in.Goals as goal

pub returns : goal.returns
returns c = sym (word-behind c.args.words.now c.args.at c.if-at-words.false)
