-- `image_bytes::get_floats` meets its contract: a turn of the loop is one float more. Assumes nothing.
use Rattle.std.specs.Prelude.{◌≡◌, drop}
use Rattle.memory_writes.specs.Put.{over}
use Rattle.image_format.specs.Bytes.{floats_in}
use Rattle.image_bytes.proofs.get_floats.Given as goal

abbrev pub invariant-loop-j : goal.invariant-loop-j
invariant-loop-j l = l.x ≡ over 0 (floats_in l.j (drop l.at l.bytes)) l.initial.x
