-- `split_pieces::fins::put_fins` meets its contract. Assumes nothing.
use Rattle.std.specs.Prelude.{◌≡◌}
use Rattle.split_lists.specs.Pass.{put_all}
use Rattle.split_pieces.specs.Pieces.{new_fin_words}
use Rattle.split_pieces.proofs.fins.put_fins.Given as goal

abbrev pub invariant-loop-k : goal.invariant-loop-k
invariant-loop-k l = l.words ≡ put_all l.room 5 l.from (new_fin_words l.owners l.senses l.edge) l.k l.initial.words
