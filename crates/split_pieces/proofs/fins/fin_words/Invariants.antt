-- `split_pieces::fins::fin_words` meets its contract. Assumes nothing.
use Rattle.std.specs.Prelude.{◌≡◌, map}
use Rattle.std.proofs.Common.{take}
use Rattle.memory_writes.specs.Put.{over}
use Rattle.split_pieces.specs.Pieces.{fin_word}
use Rattle.split_pieces.proofs.fins.fin_words.Given as goal

abbrev pub invariant-loop-k : goal.invariant-loop-k
invariant-loop-k l = l.out ≡ over 0 (map (fin_word l.room l.words l.p) (take l.k l.fins)) l.initial.out
