-- `image_bytes::put_words` meets its contract: a turn of the loop is one number more. Assumes nothing.
use Rattle.std.specs.Prelude.{◌≡◌}
use Rattle.std.proofs.Common.{take}
use Rattle.memory_writes.specs.Put.{over}
use Rattle.image_format.specs.Bytes.{words}
use Rattle.image_bytes.proofs.put_words.Given as goal

abbrev pub invariant-loop-j : goal.invariant-loop-j
invariant-loop-j l = l.bytes ≡ over l.at (words (take l.j l.a)) l.initial.bytes
