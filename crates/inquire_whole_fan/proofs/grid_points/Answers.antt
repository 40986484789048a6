-- `inquire_whole_fan::grid_points` meets its contract: a turn of the loop is one fin more. Assumes nothing.
use Rattle.std.proofs.Common.{arith}
use Rattle.memory_layout.specs.Decode.{decode}
use Rattle.inquire_fin_starts.specs.Starts.{start_point}
use Rattle.inquire_fin_starts.specs.Laws.{rim-whole, rim-start}
use Rattle.inquire_whole_fan.specs.Laws.{grid-none, grid-turn}
use Rattle.inquire_whole_fan.proofs.grid_points.Goals as goal

pub loop-fin-init : goal.loop-fin-init
loop-fin-init c = grid-none

pub start_point-p-requires : goal.start_point-p-requires
start_point-p-requires c =
    let s = c in
    let k = c.loop-fin.fin-index in
    record { fit = s.requires.fit; whole = rim-whole s.args.room.now s.args.words.now s.args.fins.now k (omega arith) s.requires.rim; i_value = rim-start s.args.room.now s.args.words.now s.args.fins.now k (omega arith) s.requires.rim }

pub loop-fin-preserved : goal.loop-fin-preserved
loop-fin-preserved c =
    let s = c in
    let turn = c.loop-fin in
    grid-turn (start_point (decode s.args.room.now s.args.words.now s.args.reals.now)) s.args.fins.now turn.fin-index _ _ _ (omega arith) turn.invariant c.start_point-p.ensures c.grid_point-on.ensures
