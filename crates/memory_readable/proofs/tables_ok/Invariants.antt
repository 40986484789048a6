-- `memory_readable::tables_ok` meets its contract: a turn of the loop is one more table. Assumes nothing.
use Rattle.std.specs.Prelude.{◌≡◌}
use Rattle.meaning.specs.Lists.{all_below}
use Rattle.memory_layout.specs.Readable.{table_ok}
use Rattle.memory_readable.proofs.tables_ok.Given as goal

abbrev pub invariant-loop-k : goal.invariant-loop-k
invariant-loop-k l = l.ok ≡ all_below (table_ok l.room l.words l.reals) l.k
