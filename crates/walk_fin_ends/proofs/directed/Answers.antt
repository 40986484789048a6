-- `walk_fin_ends::directed` meets its contract. Assumes nothing.
use borrow.Author.Rules.{rules}
use Rattle.walk_fin_ends.proofs.directed.Goals as goal

pub returns-in-Positive : goal.returns-in-Positive
returns-in-Positive c = rw c.in-Positive.is

pub returns-in-Negative : goal.returns-in-Negative
returns-in-Negative c = rw c.in-Negative.is
