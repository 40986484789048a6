-- `edit_tags::tolerance_ok` meets its contract, case by case. Assumes nothing.
use borrow.Author.Rules.{rules}
use Rattle.edit_tags.proofs.tolerance_ok.Goals as goal

pub returns-in-Own : goal.returns-in-Own
returns-in-Own c = rw c.in-Own.is c.tolerance_ok.ensures
