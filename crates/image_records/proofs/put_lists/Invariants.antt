-- `image_records::put_lists` meets its contract: a turn of the loop is one more list. Assumes nothing.
use Rattle.std.specs.Prelude.{◌≡◌, ◌+◌, length}
use Rattle.memory_writes.specs.Put.{over}
use Rattle.image_records.specs.Kept.{lists_of}
use Rattle.image_records.proofs.put_lists.Given as goal

abbrev pub invariant-loop-j : goal.invariant-loop-j
invariant-loop-j l = (l.to ≡ l.at + length (lists_of l.k l.w l.j)) × (l.bytes ≡ over l.at (lists_of l.k l.w l.j) l.initial.bytes)
