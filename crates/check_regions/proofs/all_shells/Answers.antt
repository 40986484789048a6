-- `check_regions::all_shells` meets its contract: a turn of the loop is one shell more. Assumes nothing.
use Rattle.std.proofs.Common.{arith}
use Rattle.meaning.specs.Lists.{joined}
use Rattle.meaning.specs.Faults.{shell_findings}
use Rattle.memory_layout.specs.Decode.{decode}
use Rattle.check_loop.specs.Loop.{options}
use Rattle.check_reasons.specs.Laws.{noted-none, noted-turn, enough-turn}
use Rattle.check_regions.proofs.all_shells.Goals as goal

pub loop-s-init : goal.loop-s-init
unfolding joined
loop-s-init c = noted-none _ _

pub shell-tally-requires : goal.shell-tally-requires
shell-tally-requires c = record { fit = c.requires.fit; n_bound = c.requires.n_bound; enough = enough-turn (shell_findings (decode c.args.room.now c.args.words.now c.args.reals.now) (options c.args.geometry c.args.n) c.args.r) c.args.shells.now c.loop-s.s-index (omega arith) c.requires.enough c.loop-s.invariant }

pub loop-s-preserved : goal.loop-s-preserved
loop-s-preserved c = noted-turn (shell_findings (decode c.args.room.now c.args.words.now c.args.reals.now) (options c.args.geometry c.args.n) c.args.r) c.args.shells.now c.loop-s.s-index (omega arith) c.loop-s.invariant c.shell-tally.ensures
