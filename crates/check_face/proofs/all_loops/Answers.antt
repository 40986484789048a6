-- `check_face::all_loops` meets its contract: a turn of the loop is one loop more. Assumes nothing.
use Rattle.std.proofs.Common.{arith}
use Rattle.meaning.specs.Lists.{joined}
use Rattle.meaning.specs.Faults.{loop_findings}
use Rattle.memory_layout.specs.Decode.{decode}
use Rattle.check_reasons.specs.Laws.{noted-none, noted-turn, enough-turn}
use Rattle.check_loop.specs.Loop.{options}
use Rattle.check_face.proofs.all_loops.Goals as goal

pub loop-l-init : goal.loop-l-init
unfolding joined
loop-l-init c = noted-none _ _

pub loop_-tally-requires : goal.loop_-tally-requires
loop_-tally-requires c = record { fit = c.requires.fit; n_bound = c.requires.n_bound; enough = enough-turn (loop_findings (decode c.args.room.now c.args.words.now c.args.reals.now) (options c.args.geometry c.args.n) c.args.f) c.args.loops.now c.loop-l.l-index (omega arith) c.requires.enough c.loop-l.invariant }

pub loop-l-preserved : goal.loop-l-preserved
loop-l-preserved c = noted-turn (loop_findings (decode c.args.room.now c.args.words.now c.args.reals.now) (options c.args.geometry c.args.n) c.args.f) c.args.loops.now c.loop-l.l-index (omega arith) c.loop-l.invariant c.loop_-tally.ensures
