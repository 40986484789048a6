-- What is told of a split: its number is the split's refusal, and its words are the seven of the stop. Assumes nothing.
use Rattle.std.specs.Prelude.{ℕ, ◌≡◌, Bool, cond, List, Float}
use Rattle.std.proofs.Math.Path.{refl}
use Rattle.std.proofs.Common.{◌∙◌}
use Rattle.std.proofs.Math.Bool.{true, false}
use Rattle.geom_lines_planes.specs.Refuse.{◌unless◌, ◌then◌}
use Rattle.meaning.specs.Offices.{office_split_refusal}
use Rattle.meaning_stops.specs.Stops.{stop_words}
use Rattle.meaning_stops.specs.Splits.{split_stop}
use Rattle.meaning_stops.proofs.Statements.{stop-is-the-refusal}
use Rattle.memory_layout.specs.Decode.{decode}
use Rattle.memory_layout.specs.Readable.{readable}
use Rattle.memory_layout.specs.Limits.{limits}
use Rattle.split_place.specs.SplitNumber.{office_split_number}
use Rattle.split_stop_parts.specs.Told.{told, told_words}
use Rattle.split_stop_parts.specs.Laws.{told-words}
use Rattle.split_stops.specs.SplitStop.{unreadable, lent_split_stop}

module _ (room w : List ℕ) (x : List Float) (o e : ℕ) (t : Float) where
  -- "its row's number is exactly what the split refuses with"
  pub first_word : (told (lent_split_stop room w x o e t)).number ≡ office_split_number room w x o e t
  unfolding told lent_split_stop office_split_number
  first_word = go (readable room w x)
    where
      go : (b : Bool) → (cond b (split_stop (limits room) (decode room w x) o e t) unreadable).number ≡ (9 unless b then office_split_refusal (limits room) (decode room w x) o e t)
      go true = stop-is-the-refusal (limits room) (decode room w x) o e t
      go false = refl

  pub seven-words : told_words (told (lent_split_stop room w x o e t)) ≡ stop_words (lent_split_stop room w x o e t)
  seven-words = told-words (lent_split_stop room w x o e t)
