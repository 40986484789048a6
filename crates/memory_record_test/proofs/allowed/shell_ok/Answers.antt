-- `memory_record_test::allowed::shell_ok` meets its contract. Assumes nothing.
use mathlib.Core.Path.{refl}
use borrow.Author.Rules.{rules}
use Rattle.memory_record_test.proofs.allowed.shell_ok.Goals as goal

pub returns : goal.returns
returns c = refl
