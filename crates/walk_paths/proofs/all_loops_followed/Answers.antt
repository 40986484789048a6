-- `walk_paths::all_loops_followed` meets its contract: a turn of the loop is one more face. Assumes nothing.
use Rattle.std.proofs.Common.{arith}
use Rattle.meaning.specs.Lists.{joined}
use Rattle.meaning_list_laws.specs.Lists.{below-nth, all_none}
use Rattle.memory_layout.specs.Layout.{word}
use Rattle.memory_layout.specs.Entries.{list_of}
use Rattle.walk_visits.specs.Laws.{below-turn}
use Rattle.walk_paths.proofs.all_loops_followed.Goals as goal

pub loop-face-init : goal.loop-face-init
unfolding joined
loop-face-init c = rw all_none

pub list-requires : goal.list-requires
list-requires c = record { lists = c.requires.lists; j_bound = (omega arith, below-nth (word c.args.words.now 3) c.args.faces.now c.loop-face.face-index c.requires.faces_value (omega arith)) }

pub loop-face-preserved : goal.loop-face-preserved
loop-face-preserved c = below-turn (list_of c.args.room.now c.args.words.now 5) c.args.faces.now c.loop-face.face-index _ _ _ _ (omega arith) c.loop-face.invariant c.all_followed-ok.ensures c.list.ensures
