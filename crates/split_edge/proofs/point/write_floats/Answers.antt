use Rattle.split_edge.specs.After.{reals_split}
use native.Mathlib.Omega.{arith}
use borrow.Author.Rules.{rules}
use Rattle.split_edge.proofs.point.write_floats.Goals as goal

pub returns : goal.returns
unfolding reals_split
returns c = rw (c.put_floats.ensures, c.own_float-t.ensures, c.split_point-p.ensures)
