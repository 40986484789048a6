-- `check_ends::sides::checked_from` meets its contract: by the case. Assumes nothing.
use borrow.Author.Rules.{rules}
use Rattle.check_ends.proofs.sides.checked_from.Goals as goal

pub returns-in-None : goal.returns-in-None
returns-in-None c = rw c.in-None.is

pub returns-in-Some : goal.returns-in-Some
returns-in-Some c = rw c.in-Some.is
