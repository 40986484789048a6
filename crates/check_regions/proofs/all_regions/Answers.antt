-- `check_regions::all_regions` meets its contract: a turn of the loop is one region more. Assumes nothing.
use Rattle.std.proofs.Common.{arith}
use Rattle.meaning.specs.Lists.{joined}
use Rattle.meaning.specs.Faults.{region_findings}
use Rattle.memory_layout.specs.Decode.{decode}
use Rattle.check_loop.specs.Loop.{options}
use Rattle.check_reasons.specs.Laws.{noted-none, noted-turn, enough-turn}
use Rattle.check_regions.proofs.all_regions.Goals as goal

pub loop-r-init : goal.loop-r-init
unfolding joined
loop-r-init c = noted-none _ _

pub region-tally-requires : goal.region-tally-requires
region-tally-requires c = record { fit = c.requires.fit; n_bound = c.requires.n_bound; enough = enough-turn (region_findings (decode c.args.room.now c.args.words.now c.args.reals.now) (options c.args.geometry c.args.n) c.args.b) c.args.regions.now c.loop-r.r-index (omega arith) c.requires.enough c.loop-r.invariant }

pub loop-r-preserved : goal.loop-r-preserved
loop-r-preserved c = noted-turn (region_findings (decode c.args.room.now c.args.words.now c.args.reals.now) (options c.args.geometry c.args.n) c.args.b) c.args.regions.now c.loop-r.r-index (omega arith) c.loop-r.invariant c.region-tally.ensures
