-- `check_fit::own_side` meets its contract: by the case. Assumes nothing.
use Rattle.check_fit.specs.Whole.{side_in}
use Rattle.check_fit.proofs.own_side.Goals as goal

pub returns-in-None : goal.returns-in-None
unfolding side_in
returns-in-None c = rw c.in-None.is

pub returns-in-Some : goal.returns-in-Some
unfolding side_in
returns-in-Some c = rw c.in-Some.is c.own_shell.ensures
