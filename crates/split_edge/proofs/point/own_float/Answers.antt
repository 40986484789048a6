use Rattle.memory_layout.specs.Laws.{used-inside}
use Rattle.memory_layout.proofs.Laws.{reals-length}
use Rattle.memory_layout.specs.Layout.{real}
use lib.ListN.{length}
use mathlib.Core.Path.{ap, ◌∙◌}
use native.Mathlib.Omega.{arith}
use Rattle.split_edge.proofs.point.own_float.Goals as goal

pub reals_of-x-requires : goal.reals_of-x-requires
reals_of-x-requires c = let s = c in record { small = s.requires.fit.sized.small; inside = (used-inside s.args.room.now s.args.words.now s.args.reals.now 6 s.args.edge s.requires.fit.sized (omega arith) s.requires.edge_bound).1 }

pub bounds-x-0 : goal.bounds-x-0
bounds-x-0 c =
    let s = c in
    let n = ap length c.reals_of-x.ensures ∙ reals-length s.args.room.now s.args.reals.now 6 s.args.edge (used-inside s.args.room.now s.args.words.now s.args.reals.now 6 s.args.edge s.requires.fit.sized (omega arith) s.requires.edge_bound).1 in
    omega arith

pub returns : goal.returns
returns c = ap (λ l. real l 0) c.reals_of-x.ensures
