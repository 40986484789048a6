-- `slab_fins::ends_at` meets its contract. Assumes nothing.
use Rattle.memory_layout.specs.Laws.{words_inside}
use Rattle.memory_layout.proofs.Laws.{words-length}
use Rattle.walk_sources.specs.Sources.{fin_edge}
use mathlib.Core.Path.{ap, ◌∙◌}
use lib.ListN.{length}
use Rattle.slab_fins.specs.Laws.{ends-told}
use native.Mathlib.Omega.{arith}
use Rattle.slab_fins.proofs.ends_at.Goals as goal

pub end_number-end-requires : goal.end_number-end-requires
end_number-end-requires c = let s = c in (ap length c.edge_of.ensures ∙ words-length s.args.room.now s.args.words.now 6 (fin_edge s.args.room.now s.args.words.now s.args.i) (words_inside s.args.room.now s.args.words.now 6 (fin_edge s.args.room.now s.args.words.now s.args.i) s.requires.lists (omega arith) s.requires.whole.0.edge), omega arith)

pub end_number-start-requires : goal.end_number-start-requires
end_number-start-requires c = let s = c in let h = c.place_of-place.ensures.1 in (ap length c.edge_of-2.ensures ∙ words-length s.args.room.now s.args.words.now 6 (fin_edge s.args.room.now s.args.words.now s.args.j) (words_inside s.args.room.now s.args.words.now 6 (fin_edge s.args.room.now s.args.words.now s.args.j) s.requires.lists (omega arith) s.requires.whole.1.edge), omega arith)

pub returns : goal.returns
returns c = λ x. let s = c in ends-told s.args.room.now s.args.words.now x s.args.i s.args.j _ _ _ _ _ _ c.place_of-at.ensures.0 c.edge_of.ensures c.end_number-end.ensures c.place_of-place.ensures.0 c.edge_of-2.ensures c.end_number-start.ensures
