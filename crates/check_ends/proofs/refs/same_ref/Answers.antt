-- `check_ends::refs::same_ref` meets its contract: by both cases. Assumes nothing.
use borrow.Author.Rules.{rules}
use Rattle.check_ends.proofs.refs.same_ref.Goals as goal

pub returns-in-None-b : goal.returns-in-None-b
returns-in-None-b c = rw (c.in-None.is, c.in-None-b.is)

pub returns-in-Some-b : goal.returns-in-Some-b
returns-in-Some-b c = rw (c.in-None.is, c.in-Some-b.is)

pub returns-in-None-b-2 : goal.returns-in-None-b-2
returns-in-None-b-2 c = rw (c.in-Some.is, c.in-None-b-2.is)

pub returns-in-Some-b-2 : goal.returns-in-Some-b-2
returns-in-Some-b-2 c = rw (c.in-Some.is, c.in-Some-b-2.is)
