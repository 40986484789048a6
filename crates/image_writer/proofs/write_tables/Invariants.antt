-- `image_writer::write_tables` meets its contract: a turn of the loop is one more table. Assumes nothing.
use Rattle.std.specs.Prelude.{◌≡◌, ◌+◌, length}
use Rattle.memory_writes.specs.Put.{over}
use Rattle.image_writer.specs.Rows.{tables_of}
use Rattle.image_writer.proofs.write_tables.Given as goal

abbrev pub invariant-loop-k : goal.invariant-loop-k
invariant-loop-k l = (l.to ≡ l.at + length (tables_of l.room l.words l.reals l.k)) × (l.bytes ≡ over l.at (tables_of l.room l.words l.reals l.k) l.initial.bytes)
