-- `image_loading::load_tables` meets its contract: a turn of the loop is one table more. Assumes nothing.
use Rattle.image_format.specs.Image.{table_bytes}
use Rattle.image_loading.specs.Steps.{Reached, tables_laid, table_floats_laid}
use Rattle.image_loading.proofs.load_tables.Given as goal

abbrev pub invariant-loop-k : goal.invariant-loop-k
invariant-loop-k l = Reached (table_bytes l.bytes l.k) l.bytes l.at (tables_laid l.room l.bytes l.k l.initial.words) l.words l.initial.words (table_floats_laid l.room l.bytes l.k l.initial.reals) l.reals l.initial.reals
