-- `memory_record_test::allowed::tolerance_ok` meets its contract. Assumes nothing.
use lib.Ieee.{of_bits}
use borrow.Author.Rules.{rules}
use Rattle.memory_record_test.proofs.allowed.tolerance_ok.Goals as goal

pub returns : goal.returns
unfolding of_bits
returns c = rw c.is_finite.ensures
