-- `mend_tests::followed` meets its contract. Assumes nothing.
use mathlib.Core.Path.{refl}
use Rattle.mend_tests.proofs.followed.Goals as goal

pub returns : goal.returns
returns c = refl
