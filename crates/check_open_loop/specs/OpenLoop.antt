-- The ends of fins as the code holds them. No reader of a public promise needs this file. Definitions only.
use Rattle.std.specs.Prelude.{ℕ, Bool, not, ◌&&◌}
use Rattle.meaning.specs.Model.{Model}
use Rattle.meaning.specs.Walks.{Ends, readable_fin}
use Rattle.meaning.specs.Faults.{meets_next}
use Rattle.memory_records.specs.Seen.{Ref}
use Rattle.memory_records.specs.declared.records.Sense.{Sense}
use Rattle.memory_records.specs.declared.records.Sense.TheVariants as Senses
use Rattle.memory_records.specs.Seen.{seen_ref}
use Rattle.check_open_loop.specs.declared.FinEnds.{FinEnds}

-- `directed`
unfoldable pub directed_refs : Sense → Ref → Ref → FinEnds
directed_refs Senses.Positive start end = record { start = start; end = end }
directed_refs Senses.Negative start end = record { start = end; end = start }

unfoldable pub seen_ends : Ends → FinEnds
seen_ends e = record { start = seen_ref e.start; end = seen_ref e.end }

-- the test of `open_at`
abbrev pub open_between : Model → ℕ → ℕ → Bool
open_between m i next = readable_fin m i && readable_fin m next && not (meets_next m i next)
