-- `check_loop::all_fins` meets its contract: a turn of the loop is one fin more. Assumes nothing.
use Rattle.std.proofs.Common.{arith}
use Rattle.meaning.specs.Lists.{joined}
use Rattle.meaning.specs.Faults.{fin_findings}
use Rattle.memory_layout.specs.Decode.{decode}
use Rattle.check_reasons.specs.Laws.{noted-none, noted-turn, enough-turn}
use Rattle.check_loop.proofs.all_fins.Goals as goal

pub loop-id-init : goal.loop-id-init
unfolding joined
loop-id-init c = noted-none _ _

pub fin-tally-requires : goal.fin-tally-requires
fin-tally-requires c = record { fit = c.requires.fit; enough = enough-turn (fin_findings (decode c.args.room.now c.args.words.now c.args.reals.now) c.args.l) c.args.fins.now c.loop-id.id-index (omega arith) c.requires.enough c.loop-id.invariant }

pub loop-id-preserved : goal.loop-id-preserved
loop-id-preserved c = noted-turn (fin_findings (decode c.args.room.now c.args.words.now c.args.reals.now) c.args.l) c.args.fins.now c.loop-id.id-index (omega arith) c.loop-id.invariant c.fin-tally.ensures
