-- `check_loop::all_geometry` meets its contract: a turn of the loop is one fin more. Assumes nothing.
use Rattle.std.proofs.Common.{arith}
use Rattle.meaning.specs.Lists.{joined}
use Rattle.memory_layout.specs.Decode.{decode}
use Rattle.check_ends.specs.Ends.{ref_of}
use Rattle.check_fin.specs.Fin.{fin_on}
use Rattle.check_reasons.specs.Laws.{noted-none, noted-turn, enough-turn}
use Rattle.check_loop.proofs.all_geometry.Goals as goal

pub loop-id-init : goal.loop-id-init
unfolding joined
loop-id-init c = noted-none _ _

pub fin_geometry-tally-requires : goal.fin_geometry-tally-requires
fin_geometry-tally-requires c = record { fit = c.requires.fit; n_bound = c.requires.n_bound; enough = enough-turn (fin_on (decode c.args.room.now c.args.words.now c.args.reals.now) c.args.n (ref_of c.args.surface)) c.args.fins.now c.loop-id.id-index (omega arith) c.requires.enough c.loop-id.invariant }

pub loop-id-preserved : goal.loop-id-preserved
loop-id-preserved c = noted-turn (fin_on (decode c.args.room.now c.args.words.now c.args.reals.now) c.args.n (ref_of c.args.surface)) c.args.fins.now c.loop-id.id-index (omega arith) c.loop-id.invariant c.fin_geometry-tally.ensures
