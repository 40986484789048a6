-- `walk_sources::ends` meets its contract: the start, then the end. Assumes nothing.
use native.Mathlib.Omega.{arith}
use Rattle.memory_layout.specs.Layout.{word}
use Rattle.walk_sources.specs.Laws.{end_short, took-ends}
use Rattle.walk_sources.proofs.ends.Goals as goal

pub put_end-requires : goal.put_end-requires
put_end-requires c = omega (arith, c.put_end-n.ensures, end_short (word c.args.edge.now 0) (word c.args.edge.now 1))

pub returns : goal.returns
returns c = took-ends c.args.edge.now _ _ _ _ _ c.put_end-n.ensures c.put_end.ensures
