-- `memory_records::records::point_of` meets its contract. Assumes nothing.
use mathlib.Core.Path.{refl}
use borrow.Author.Rules.{rules}
use Rattle.memory_records.proofs.records.point_of.Goals as goal

pub returns : goal.returns
returns c = refl
