-- `inquire_fin_starts::start_id` meets its contract. Assumes nothing.
use native.Mathlib.Omega.{arith}
use mathlib.Core.Path.{ap}
use lib.ListN.{length}
use Rattle.memory_layout.specs.Laws.{words_inside}
use Rattle.memory_layout.proofs.Laws.{words-length}
use Rattle.walk_sources.specs.Sources.{fin_edge}
use Rattle.inquire_fin_starts.specs.Starts.{start_id}
use Rattle.inquire_fin_starts.proofs.start_id.Goals as goal

pub bounds-edge-at : goal.bounds-edge-at
bounds-edge-at c =
    let s = c in
    omega (arith, ap length c.edge_of-edge.ensures, words-length s.args.room.now s.args.words.now 6 (fin_edge s.args.room.now s.args.words.now s.args.i) (words_inside s.args.room.now s.args.words.now 6 (fin_edge s.args.room.now s.args.words.now s.args.i) s.requires.lists (omega arith) s.requires.whole.edge), c.place_of-at.ensures.1)

pub returns : goal.returns
unfolding start_id
returns c = rw (c.edge_of-edge.ensures, c.place_of-at.ensures.0)
