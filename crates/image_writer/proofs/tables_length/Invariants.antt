-- `image_writer::tables_length` meets its contract: a turn of the loop is one more table. Assumes nothing.
use Rattle.std.specs.Prelude.{◌≡◌}
use Rattle.image_writer.specs.Rows.{tables_length}
use Rattle.image_writer.proofs.tables_length.Given as goal

abbrev pub invariant-loop-k : goal.invariant-loop-k
invariant-loop-k l = l.long ≡ tables_length l.room l.words l.k
