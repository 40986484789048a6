-- `inquire_fin_starts::start_refusal` meets its contract. Assumes nothing.
use native.Mathlib.Omega.{arith}
use mathlib.Core.Path.{ap, ◌∙◌}
use lib.ListN.{length}
use Rattle.memory_layout.specs.Laws.{words_inside}
use Rattle.memory_layout.proofs.Laws.{words-length}
use Rattle.walk_sources.specs.Laws.{used-words}
use Rattle.walk_sources.specs.Sources.{fin_edge}
use Rattle.inquire_fin_starts.specs.Starts.{start_number}
use Rattle.inquire_fin_starts.proofs.start_refusal.Goals as goal

pub bounds-words-7 : goal.bounds-words-7
bounds-words-7 c =
    let s = c in
    used-words s.args.room.now s.args.words.now 7 s.requires.lists (omega arith)

pub end_refusal-requires : goal.end_refusal-requires
end_refusal-requires c =
    let s = c in
    (ap length c.edge_of.ensures ∙ words-length s.args.room.now s.args.words.now 6 (fin_edge s.args.room.now s.args.words.now s.args.i) (words_inside s.args.room.now s.args.words.now 6 (fin_edge s.args.room.now s.args.words.now s.args.i) s.requires.lists (omega arith) s.requires.whole.edge), c.place_of-at.ensures.1)

pub returns : goal.returns
unfolding start_number
returns c = c.end_refusal.ensures ∙ rw (c.edge_of.ensures, c.place_of-at.ensures.0)
