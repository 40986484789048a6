-- `memory_readable::rows_ok` meets its contract: a turn of the loop is one more record. Assumes nothing.
use Rattle.std.specs.Prelude.{◌≡◌}
use Rattle.meaning.specs.Lists.{all_below}
use Rattle.memory_layout.specs.Readable.{record_ok}
use Rattle.memory_layout.specs.TableRows.{row}
use Rattle.memory_readable.proofs.rows_ok.Given as goal

abbrev pub invariant-loop-i : goal.invariant-loop-i
invariant-loop-i l = l.ok ≡ all_below (λ j. record_ok l.k (row l.w l.words j) (row l.x l.reals j)) l.i
