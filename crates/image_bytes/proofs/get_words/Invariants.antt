-- `image_bytes::get_words` meets its contract: a turn of the loop is one number more. Assumes nothing.
use Rattle.std.specs.Prelude.{◌≡◌, drop}
use Rattle.memory_writes.specs.Put.{over}
use Rattle.image_format.specs.Bytes.{words_in}
use Rattle.image_bytes.proofs.get_words.Given as goal

abbrev pub invariant-loop-j : goal.invariant-loop-j
invariant-loop-j l = l.w ≡ over 0 (words_in l.j (drop l.at l.bytes)) l.initial.w
