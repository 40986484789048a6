-- `image_loading::load_table` meets its contract: a turn of the loop is one record more. Assumes nothing.
use Rattle.image_format.specs.Image.{behind_records, table_bytes}
use Rattle.image_loading.specs.Laid.{records_laid, floats_laid}
use Rattle.image_loading.specs.Steps.{Reached}
use Rattle.image_loading.proofs.load_table.Given as goal

abbrev pub invariant-loop-i : goal.invariant-loop-i
invariant-loop-i l = Reached (behind_records l.k l.i (table_bytes l.bytes l.k)) l.bytes l.here (records_laid l.room l.bytes l.k l.i l.initial.words) l.words l.initial.words (floats_laid l.room l.bytes l.k l.i l.initial.reals) l.reals l.initial.reals
