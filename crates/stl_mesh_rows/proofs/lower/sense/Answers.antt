-- `stl_mesh_rows::lower::sense` meets its contract. Assumes nothing.
use borrow.Author.Tests.{le-leb, lt-leb}
use Rattle.stl_mesh_rows.proofs.lower.sense.Goals as goal

pub returns-then-from-to : goal.returns-then-from-to
returns-then-from-to c = rw (le-leb _ _ c.if-from-to.true)

pub returns : goal.returns
returns c = rw (lt-leb _ _ c.if-from-to.false)
