-- What the code tells of rows 12 and 13 is what `meaning_stops` has. Assumes nothing.
use Rattle.std.specs.Prelude.{ℕ, ◌+◌, ◌≡◌, true, false, List, [], ◌∷◌, ◌++◌, map, leb, length, Float}
use Rattle.std.proofs.Math.Path.{refl, ap₂}
use Rattle.std.proofs.Common.{◌∙◌}
use Rattle.geom_lines_planes.specs.Refuse.{◌unless◌}
use Rattle.meaning.specs.Lists.{run}
use Rattle.meaning.specs.Model.{Model, edge}
use Rattle.meaning.specs.Split.{edge_fits}
use Rattle.meaning.specs.Faults.{of_edge}
use Rattle.meaning_stops.specs.Stops.{this, nothing, Part, part, first_stop}
use Rattle.meaning_stops.specs.Splits.{row12, row13-loops, row13-shells}
use Rattle.memory_layout.specs.Layout.{word}
use Rattle.memory_layout.specs.Decode.{decode}
use Rattle.memory_layout.specs.Entries.{list_of}
use Rattle.split_place.specs.Place.{wire_test, owned_by, loop_test}
use Rattle.memory_layout.specs.Limits.{limits}
use Rattle.split_stop_parts.specs.Told.{told, first_told, row_told}
use Rattle.split_stop_parts.specs.Laws.{row-append, chained, row_chained, rows-first, rows-one}
use Rattle.split_stop_room.specs.RoomRows.{room_rows, shell_part, loop_part, tables_told}

module _ (room w : List ℕ) (x : List Float) (e : ℕ) where
  abbrev m : Model
  m = decode room w x

  abbrev fins : List ℕ
  fins = list_of room w 7 e

  wires-told : row_told 12 (row12 m e) ≡ row_told 12 (map (shell_part room w e false 1 1) (run 0 (word w 2)))
  unfolding shell_part wire_test list_of decode
  wires-told = refl

  slots-told : row_told 13 (row13-shells (limits room) m e) ≡ row_told 13 (map (shell_part room w e true 6 8) (run 0 (word w 2)))
  unfolding shell_part wire_test list_of decode
  slots-told = refl

  loops-told : row_told 13 (row13-loops (limits room) m e) ≡ row_told 13 (map (loop_part room w fins) fins)
  unfolding loop_part loop_test owned_by list_of decode
  loops-told = refl

  abbrev tables : List Part
  tables =
      part 1 (8 unless leb (m.fins.used + length (edge m e).fins) (word room 5)) (this of_edge e) nothing
      ∷ part 2 (8 unless leb (m.edges.used + 1) (word room 6)) (this of_edge e) nothing
      ∷ part 3 (8 unless leb (m.vertices.used + 1) (word room 7)) (this of_edge e) nothing
      ∷ part 4 (8 unless edge_fits (limits room) m e) (this of_edge e) nothing
      ∷ []

  tables-told : row_told 13 tables ≡ tables_told room w e (length fins)
  unfolding chained tables_told list_of decode
  tables-told = row_chained 13 tables

  pub room-told : told (first_stop (room_rows (limits room) m e))
      ≡ first_told (row_told 12 (map (shell_part room w e false 1 1) (run 0 (word w 2))))
      (first_told (tables_told room w e (length fins)) (first_told (row_told 13 (map (loop_part room w fins) fins)) (row_told 13 (map (shell_part room w e true 6 8) (run 0 (word w 2))))))
  unfolding room_rows
  room-told =
      rows-first _ _
      ∙ ap₂ first_told wires-told
      (rows-one _
      ∙ row-append 13 tables (row13-loops (limits room) m e ++ row13-shells (limits room) m e)
      ∙ ap₂ first_told tables-told (row-append 13 (row13-loops (limits room) m e) (row13-shells (limits room) m e) ∙ ap₂ first_told loops-told slots-told))
