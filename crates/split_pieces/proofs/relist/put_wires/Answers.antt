use Rattle.split_pieces.specs.Pieces.{wires_put}
use mathlib.Core.Path.{refl}
use native.Mathlib.Omega.{arith}
use Rattle.split_pieces.proofs.relist.put_wires.Goals as goal

pub overflow_cast-n : goal.overflow_cast-n
overflow_cast-n c = omega (arith, c.type_inv.words 2)

pub double_lists-requires : goal.double_lists-requires
double_lists-requires c =
    let s = c in
    record { small = s.requires.slots.small; olds = record { own = refl; sense = refl; few = omega arith; ids = omega (arith, s.requires.slots.edges, s.requires.slots.most-edges) }; roomy = s.requires.roomy }

pub returns : goal.returns
unfolding wires_put
returns c = c.double_lists.ensures
