-- `course_tests::worse_of` meets its contract. Assumes nothing.
use borrow.Author.Tests.{lt-ltb, le-ltb}
use Rattle.course_tests.proofs.worse_of.Goals as goal

pub returns-then-a-b : goal.returns-then-a-b
returns-then-a-b c = rw (lt-ltb _ _ c.if-a-b.true)

pub returns : goal.returns
returns c = rw (le-ltb _ _ c.if-a-b.false)
