-- `mend_walk::shells` meets its contract: a turn of the loop is one shell more. Assumes nothing.
use Rattle.std.proofs.Common.{arith}
use Rattle.meaning_mends.specs.Mends.{shell_there}
use Rattle.mend_meetings.specs.Facts.{model_of}
use Rattle.mend_walk.specs.Laws.{entry-there, turn-first, turn-ready, turn-next, turn_last}
use Rattle.mend_walk.proofs.shells.Goals as goal

pub loop-id-init : goal.loop-id-init
loop-id-init c = turn-first

pub shell-n-requires : goal.shell-n-requires
shell-n-requires c =
    let s = c in
    let t = c.loop-id in
    record { ready = turn-ready t.invariant s.requires.ready; s_value = entry-there (shell_there (model_of s.args.room.now s.args.words.now)) s.args.ids.now t.id-index (omega arith) s.requires.ids_value }

pub loop-id-preserved : goal.loop-id-preserved
loop-id-preserved c = turn-next c.loop-id.invariant (omega arith) c.shell-n.ensures

pub returns : goal.returns
returns c = turn_last c.loop-id.invariant (omega arith)
