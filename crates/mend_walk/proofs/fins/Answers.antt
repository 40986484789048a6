-- `mend_walk::fins` meets its contract: a turn of the loop is one fin more. Assumes nothing.
use native.Mathlib.Omega.{arith}
use mathlib.Core.Path.{refl}
use Rattle.meaning.specs.Walks.{readable_fin}
use Rattle.meaning_mends.specs.Mends.{a_fin}
use Rattle.mend_meetings.specs.Facts.{model_of}
use Rattle.mend_walk.specs.Laws.{fin-present, entry-there, turn-first, turn-ready, turn-next, turn_last}
use Rattle.mend_walk.proofs.fins.Goals as goal

pub loop-id-init : goal.loop-id-init
loop-id-init c = turn-first

pub meet-n-requires : goal.meet-n-requires
meet-n-requires c =
    let s = c in
    let t = c.loop-id in
    record { ready = turn-ready t.invariant s.requires.ready; present = fin-present s.args.room.now s.args.words.now _ (entry-there (readable_fin (model_of s.args.room.now s.args.words.now)) s.args.ids.now t.id-index (omega arith) s.requires.ids_value) }

pub loop-id-preserved : goal.loop-id-preserved
loop-id-preserved c = turn-next c.loop-id.invariant (omega arith) (c.meet-n.ensures a_fin refl)

pub returns : goal.returns
returns c = turn_last c.loop-id.invariant (omega arith)
