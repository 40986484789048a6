-- `image_writer::rows_length` meets its contract: a turn of the loop is one more record. Assumes nothing.
use Rattle.std.specs.Prelude.{◌≡◌}
use Rattle.image_writer.specs.Rows.{rows_length}
use Rattle.image_writer.proofs.rows_length.Given as goal

abbrev pub invariant-loop-i : goal.invariant-loop-i
invariant-loop-i l = l.long ≡ rows_length l.k l.w l.i
