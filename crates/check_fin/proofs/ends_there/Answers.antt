-- `check_fin::ends_there` meets its contract: one end after the other. Assumes nothing.
use native.Mathlib.Omega.{arith}
use Rattle.memory_records.specs.Laws.{counts-there}
use Rattle.memory_layout.specs.Decode.{decode}
use Rattle.check_ends.specs.Steps.{enough-one, enough-two, noted-two}
use Rattle.check_fin.specs.Laws.{vertices-told}
use borrow.Author.Rules.{rules}
use Rattle.check_fin.proofs.ends_there.Goals as goal

pub edge_at-edge-requires : goal.edge_at-edge-requires
edge_at-edge-requires c = record { fit = c.requires.fit; i_bound = c.requires.e_bound }

pub bounds-words-7 : goal.bounds-words-7
bounds-words-7 c = omega (arith, counts-there _ _ _ c.requires.fit.sized)

pub end_there-a-requires : goal.end_there-a-requires
unfolding decode
end_there-a-requires c = enough-one _ _ _ (vertices-told (decode c.args.room.now c.args.words.now c.args.reals.now) c.args.e _ c.edge_at-edge.ensures) c.requires.enough

pub bounds-words-7-2 : goal.bounds-words-7-2
bounds-words-7-2 c = omega (arith, counts-there _ _ _ c.requires.fit.sized)

pub end_there-requires : goal.end_there-requires
unfolding decode
end_there-requires c = enough-two _ _ _ (vertices-told (decode c.args.room.now c.args.words.now c.args.reals.now) c.args.e _ c.edge_at-edge.ensures) c.requires.enough c.end_there-a.ensures

pub returns : goal.returns
unfolding decode
returns c = noted-two _ _ _ (vertices-told (decode c.args.room.now c.args.words.now c.args.reals.now) c.args.e _ c.edge_at-edge.ensures) c.end_there-a.ensures c.end_there.ensures
