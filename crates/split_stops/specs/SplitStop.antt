-- "Why is this split refused?", of lent memory: 01, "Every call tests 9 first", then what `meaning_stops` has of the model that it holds. Definitions only.
use Rattle.std.specs.Prelude.{ℕ, cond, List, Float}
use Rattle.meaning_stops.specs.Stops.{nothing, Stop}
use Rattle.meaning_stops.specs.Splits.{split_stop}
use Rattle.memory_layout.specs.Decode.{decode}
use Rattle.memory_layout.specs.Readable.{readable}
use Rattle.memory_layout.specs.Limits.{limits}

-- where the tables cannot be read: row 0 as for the office, part 0 before it, and no record
abbrev pub unreadable : Stop
unreadable = record { number = 9; row = 0; part = 0; entity = nothing; parent = nothing }

unfoldable pub lent_split_stop : List ℕ → List ℕ → List Float → ℕ → ℕ → Float → Stop
lent_split_stop room w x o e t = cond (readable room w x) (split_stop (limits room) (decode room w x) o e t) unreadable
