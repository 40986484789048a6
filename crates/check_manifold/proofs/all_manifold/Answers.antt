-- `check_manifold::all_manifold` meets its contract: a turn of the loop is one edge more. Assumes nothing.
use Rattle.std.proofs.Common.{arith}
use Rattle.meaning.specs.Lists.{joined}
use Rattle.meaning.specs.Faults.{manifold_edge}
use Rattle.memory_layout.specs.Decode.{decode}
use Rattle.check_reasons.specs.Laws.{noted-none, noted-turn, enough-turn}
use Rattle.check_manifold.proofs.all_manifold.Goals as goal

pub loop-id-init : goal.loop-id-init
unfolding joined
loop-id-init c = noted-none _ _

pub manifold_edge-tally-requires : goal.manifold_edge-tally-requires
manifold_edge-tally-requires c = record { fit = c.requires.fit; enough = enough-turn (manifold_edge (decode c.args.room.now c.args.words.now c.args.reals.now)) c.args.ids.now c.loop-id.id-index (omega arith) c.requires.enough c.loop-id.invariant }

pub loop-id-preserved : goal.loop-id-preserved
loop-id-preserved c = noted-turn (manifold_edge (decode c.args.room.now c.args.words.now c.args.reals.now)) c.args.ids.now c.loop-id.id-index (omega arith) c.loop-id.invariant c.manifold_edge-tally.ensures
