-- `check_regions::all_faces` meets its contract: a turn of the loop is one face more. Assumes nothing.
use Rattle.std.proofs.Common.{arith}
use Rattle.meaning.specs.Lists.{joined}
use Rattle.meaning.specs.Faults.{face_findings}
use Rattle.memory_layout.specs.Decode.{decode}
use Rattle.check_loop.specs.Loop.{options}
use Rattle.check_reasons.specs.Laws.{noted-none, noted-turn, enough-turn}
use Rattle.check_regions.proofs.all_faces.Goals as goal

pub loop-f-init : goal.loop-f-init
unfolding joined
loop-f-init c = noted-none _ _

pub face-tally-requires : goal.face-tally-requires
face-tally-requires c = record { fit = c.requires.fit; n_bound = c.requires.n_bound; enough = enough-turn (face_findings (decode c.args.room.now c.args.words.now c.args.reals.now) (options c.args.geometry c.args.n) c.args.s) c.args.faces.now c.loop-f.f-index (omega arith) c.requires.enough c.loop-f.invariant }

pub loop-f-preserved : goal.loop-f-preserved
loop-f-preserved c = noted-turn (face_findings (decode c.args.room.now c.args.words.now c.args.reals.now) (options c.args.geometry c.args.n) c.args.s) c.args.faces.now c.loop-f.f-index (omega arith) c.loop-f.invariant c.face-tally.ensures
