-- `memory_layout::layout::real_at` meets its contract. Assumes nothing.
use Rattle.memory_layout.specs.Laws.{reals-strides}
use borrow.Author.Rules.{rules}
use Rattle.memory_layout.proofs.layout.real_at.Goals as goal

pub record_at-requires : goal.record_at-requires
record_at-requires c = record { small = c.requires.small; strides = reals-strides; from_bound = search rules }

pub returns : goal.returns
returns c = c.record_at.ensures
