-- `stl_numbers::rising` meets its contract. Assumes nothing.
use native.Mathlib.Omega.{arith}
use borrow.Author.Tests.{le-leb, lt-leb}
use Rattle.stl_body.specs.Read.{edge_of}
use Rattle.stl_numbers.proofs.rising.Goals as goal

pub returns-then-u-v : goal.returns-then-u-v
unfolding edge_of
returns-then-u-v c = rw (le-leb c.args.u c.args.v c.if-u-v.true)

pub returns : goal.returns
unfolding edge_of
returns c = rw (lt-leb c.args.u c.args.v (omega arith))
