-- `memory_record_test::allowed::own_ok` meets its contract. Assumes nothing.
use borrow.Author.Rules.{rules}
use Rattle.memory_record_test.proofs.allowed.own_ok.Goals as goal

pub returns : goal.returns
returns c = rw c.tolerance_ok.ensures
