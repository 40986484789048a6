-- `image_writer::write_rows` meets its contract: a turn of the loop is one more record. Assumes nothing.
use Rattle.std.specs.Prelude.{◌≡◌, ◌+◌, length}
use Rattle.memory_writes.specs.Put.{over}
use Rattle.image_writer.specs.Rows.{rows_image}
use Rattle.image_writer.proofs.write_rows.Given as goal

abbrev pub invariant-loop-i : goal.invariant-loop-i
invariant-loop-i l = (l.to ≡ l.at + length (rows_image l.k l.w l.x l.i)) × (l.bytes ≡ over l.at (rows_image l.k l.w l.x l.i) l.initial.bytes)
