-- `edit_tags::tolerance_float` meets its contract, case by case. Assumes nothing.
use lib.Ieee.{of_bits}
use borrow.Author.Rules.{rules}
use Rattle.edit_tags.proofs.tolerance_float.Goals as goal

pub returns-in-Session : goal.returns-in-Session
unfolding of_bits
returns-in-Session c = rw c.in-Session.is
