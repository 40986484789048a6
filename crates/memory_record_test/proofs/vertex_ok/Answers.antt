-- `memory_record_test::vertex_ok` meets its contract. Assumes nothing.
use borrow.Author.Rules.{rules}
use Rattle.memory_record_test.proofs.vertex_ok.Goals as goal

pub returns : goal.returns
returns c = rw c.own_ok.ensures
