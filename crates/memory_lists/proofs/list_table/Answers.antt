-- `memory_lists::list_table` meets its contract. Assumes nothing.
use mathlib.Core.Path.{refl}
use borrow.Author.Rules.{rules}
use Rattle.memory_lists.proofs.list_table.Goals as goal

pub returns : goal.returns
returns c = refl
