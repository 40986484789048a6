-- Rows 12 and 13 of a split's tests, and each of what the code reads of it. `Laws.antt` says that they are the rows of `meaning_stops`. Definitions only.
use Rattle.std.specs.Prelude.{ℕ, ◌+◌, Bool, List, [], ◌∷◌, leb}
use Rattle.geom_lines_planes.specs.Refuse.{◌unless◌}
use Rattle.meaning.specs.Model.{Model, Limits}
use Rattle.meaning.specs.Faults.{of_shell, of_loop, of_fin}
use Rattle.meaning_stops.specs.Stops.{this, nothing, Part, part, Row, ◌∶◌}
use Rattle.meaning_stops.specs.Splits.{row12, row13}
use Rattle.memory_layout.specs.Names.{FINS, EDGES, VERTICES, AT_FIN_LOOP}
use Rattle.memory_layout.specs.Layout.{word, words_of}
use Rattle.split_place.specs.Place.{wire_test, loop_test}
use Rattle.split_stop_parts.specs.declared.Stop.{Stop}
use Rattle.split_stop_parts.specs.Told.{tell_at, first_told}

unfoldable pub room_rows : Limits → Model → ℕ → List Row
room_rows x m e = (12 ∶ row12 m e) ∷ (13 ∶ row13 x m e) ∷ []

module _ (room w : List ℕ) where
  -- a shell in the part k of a row, with the refusal n: 12. "A wire shell lists the edge more than once: 1"; or, where one more is asked for, 13. its slots
  unfoldable pub shell_part : ℕ → Bool → ℕ → ℕ → ℕ → Part
  shell_part e more k n s = part k (n unless wire_test room w e more s) (this of_shell s) nothing

  -- 13. the slots of the loop of the fin i, one of the edge's fins
  unfoldable pub loop_part : List ℕ → ℕ → Part
  loop_part fins i = part 5 (8 unless loop_test room w fins i) (this of_loop (word (words_of room w FINS i) AT_FIN_LOOP)) (this of_fin i)

  -- 13. the tables, and the new edge's own list, of n fins
  unfoldable pub tables_told : ℕ → ℕ → Stop
  tables_told e n =
      first_told (tell_at 13 1 (8 unless leb (word w FINS + n) (word room FINS)) 6 e 10 0)
      (first_told (tell_at 13 2 (8 unless leb (word w EDGES + 1) (word room EDGES)) 6 e 10 0)
      (first_told (tell_at 13 3 (8 unless leb (word w VERTICES + 1) (word room VERTICES)) 6 e 10 0) (tell_at 13 4 (8 unless leb n 8) 6 e 10 0)))
