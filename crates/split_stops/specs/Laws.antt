-- The thirteen rows in three, as the code tells them, and the two tests before them. Assumes nothing.
use Rattle.std.specs.Prelude.{ℕ, ◌≤◌, ◌<◌, ◌≡◌, refl, Bool, cond, List, [], ◌∷◌, ◌++◌, Float}
use Rattle.std.proofs.Common.{sym, ap, ◌∙◌}
use Rattle.std.proofs.Math.Bool.{true, false}
use Rattle.std.proofs.Math.Dec.{leb}
use borrow.Author.Tests.{le-leb, lt-leb}
use Rattle.geom_lines_planes.specs.Refuse.{◌unless◌}
use Rattle.meaning.specs.Model.{Model, Limits}
use Rattle.meaning.specs.Offices.{office_refusal, edge_for}
use Rattle.meaning_stops.specs.Stops.{nothing, part, Row, ◌∶◌, first_stop}
use Rattle.meaning_stops.specs.Splits.{split_stops, split_stop}
use Rattle.memory_layout.specs.Decode.{decode}
use Rattle.memory_layout.specs.Readable.{readable}
use Rattle.memory_layout.specs.Limits.{limits}
use Rattle.split_stop_parts.specs.declared.Stop.{Stop}
use Rattle.split_stop_parts.specs.Told.{told, tell_at, first_told, row_told}
use Rattle.split_stop_parts.specs.Laws.{first-assoc, part-stops, part-passes, row_one, rows-first}
use Rattle.split_stop_edge.specs.EdgeRows.{edge_rows}
use Rattle.split_stop_place.specs.PlaceRows.{place_rows}
use Rattle.split_stop_room.specs.RoomRows.{room_rows}
use Rattle.split_stops.specs.SplitStop.{lent_split_stop}

rows_append : (k l : List Row) → told (first_stop (k ++ l)) ≡ first_told (told (first_stop k)) (told (first_stop l))
unfolding first_stop told first_told
rows_append [] l = refl
rows_append (r ∷ k) l =
    rows-first r (k ++ l)
    ∙ ap (first_told (row_told r.row r.parts)) (rows_append k l)
    ∙ sym (first-assoc (row_told r.row r.parts) (told (first_stop k)) (told (first_stop l)))
    ∙ ap (λ (a : Stop). first_told a (told (first_stop l))) (sym (rows-first r k))

pub three-rows : (y : Limits) (m : Model) (asked e : ℕ) (t : Float)
    → told (first_stop (split_stops y m asked e t)) ≡ first_told (told (first_stop (edge_rows m asked e t))) (first_told (told (first_stop (place_rows m e t))) (told (first_stop (room_rows y m e))))
unfolding split_stops edge_rows place_rows room_rows
three-rows y m asked e t =
    rows_append (edge_rows m asked e t) (place_rows m e t ++ room_rows y m e) ∙ ap (first_told (told (first_stop (edge_rows m asked e t)))) (rows_append (place_rows m e t) (room_rows y m e))

office-first : (y : Limits) (m : Model) (o e : ℕ) (t : Float) → told (split_stop y m o e t) ≡ first_told (tell_at 0 1 (office_refusal o) 10 0 10 0) (told (first_stop (split_stops y m e (edge_for m o e) t)))
unfolding split_stop
office-first y m o e t =
    rows-first _ _ ∙ ap (λ (a : Stop). first_told a (told (first_stop (split_stops y m e (edge_for m o e) t)))) (row_one 0 (part 1 (office_refusal o) nothing nothing))

module _ (room w : List ℕ) (x : List Float) (o e : ℕ) (t : Float) where
  pub stop-unreadable : readable room w x ≡ false → tell_at 0 0 9 10 0 10 0 ≡ told (lent_split_stop room w x o e t)
  unfolding lent_split_stop told tell_at
  stop-unreadable r = rw r

  pub stop-office : readable room w x ≡ true → 1 < o → tell_at 0 1 1 10 0 10 0 ≡ told (lent_split_stop room w x o e t)
  unfolding lent_split_stop
  stop-office r h =
      let no-office : leb o 1 ≡ false = lt-leb o 1 h in
      rw r (sym (office-first (limits room) (decode room w x) o e t ∙ rw no-office (part-stops 0 1 0 10 0 10 0 _)))

  pub stop-tests : readable room w x ≡ true → o ≤ 1 → told (first_stop (split_stops (limits room) (decode room w x) e (edge_for (decode room w x) o e) t)) ≡ told (lent_split_stop room w x o e t)
  unfolding lent_split_stop
  stop-tests r h =
      let an-office : leb o 1 ≡ true = le-leb o 1 h in
      rw r (sym (office-first (limits room) (decode room w x) o e t ∙ rw an-office (part-passes 0 1 10 0 10 0 _)))
