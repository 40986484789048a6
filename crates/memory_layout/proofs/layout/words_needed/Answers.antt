-- `memory_layout::layout::words_needed` meets its contract. Assumes nothing.
use Rattle.memory_layout.specs.Laws.{words-strides}
use borrow.Author.Rules.{rules}
use Rattle.memory_layout.proofs.layout.words_needed.Goals as goal

pub base-requires : goal.base-requires
base-requires c = record { small = c.requires; strides = words-strides; from_bound = search rules }

pub returns : goal.returns
returns c = c.base.ensures
