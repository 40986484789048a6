-- `memory_records::records::in_effect` meets its contract. Assumes nothing.
use borrow.Author.Rules.{rules}
use Rattle.memory_records.proofs.records.in_effect.Goals as goal

pub returns : goal.returns
returns c = rw (c.effective_tolerance.ensures, c.version_of.ensures)
