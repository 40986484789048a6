-- `split_room::wires::shells_ok` meets its contract. Assumes nothing.
use Rattle.std.proofs.Common.{arith}
use Rattle.meaning_list_laws.specs.Tests.{all_below-none, all_below-turn}
use Rattle.split_fins.specs.Laws.{counts-listed}
use Rattle.split_room.proofs.wires.shells_ok.Goals as goal

pub bounds-words-2 : goal.bounds-words-2
bounds-words-2 c = let n = counts-listed c.args.room.now c.args.words.now c.requires in omega arith

pub loop-s-init : goal.loop-s-init
loop-s-init c = rw all_below-none

pub loop-s-preserved : goal.loop-s-preserved
loop-s-preserved c = all_below-turn _ _ _ _ c.loop-s.invariant c.wires_ok-ok.ensures
