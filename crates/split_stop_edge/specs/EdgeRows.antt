-- Rows 1 to 8 of a split's tests, and each of what the code reads of it. `Laws.antt` says that they are the rows of `meaning_stops`. Definitions only.
use Rattle.std.specs.Prelude.{ℕ, List, [], ◌∷◌, ltb, Float}
use Rattle.std.specs.Float.Ieee.Scale.{finite}
use Rattle.geom_lines_planes.specs.Refuse.{◌unless◌}
use Rattle.geom_carriers.specs.Queries.{line_refusal}
use Rattle.geom_signs.specs.Signs.{increasing_s, span_s}
use Rattle.meaning.specs.Model.{Model, curve}
use Rattle.meaning.specs.Refuse.{◌if◌}
use Rattle.meaning.specs.Split.{is_positive}
use Rattle.meaning.specs.Faults.{of_fin, of_edge}
use Rattle.meaning_stops.specs.Stops.{this, Part, part, Row, ◌∶◌}
use Rattle.meaning_stops.specs.Splits.{row1, row2, row3, row4, row5, row6, row7, row8}
use Rattle.memory_layout.specs.Names.{FINS, VERTICES, AT_FIN_PCURVE, AT_EDGE_START, AT_EDGE_START_ID, AT_EDGE_END, AT_EDGE_END_ID, AT_EDGE_CURVE, AT_EDGE_CURVE_ID}
use Rattle.memory_layout.specs.Layout.{word, words_of}
use Rattle.memory_layout.specs.Decode.{flag_at}
use Rattle.split_segment.specs.declared.segment.Segment.{Segment}
use Rattle.split_segment.specs.Segment.{low, high}
use Rattle.split_stop_parts.specs.declared.Stop.{Stop}
use Rattle.split_stop_parts.specs.Told.{tell_at, first_told}

-- ---- the rows that the inner functions tell: 4 to 8, and 1 to 8

unfoldable pub bounds_rows : Model → ℕ → List Row
bounds_rows m e = (4 ∶ row4 m e) ∷ (5 ∶ row5 m e) ∷ (6 ∶ row6 m e) ∷ (7 ∶ row7 m e) ∷ (8 ∶ row8 m e) ∷ []

unfoldable pub edge_rows : Model → ℕ → ℕ → Float → List Row
edge_rows m asked e t =
    (1 ∶ row1 asked t)
    ∷ (2 ∶ row2 m asked e)
    ∷ (3 ∶ row3 m e)
    ∷ (4 ∶ row4 m e)
    ∷ (5 ∶ row5 m e)
    ∷ (6 ∶ row6 m e)
    ∷ (7 ∶ row7 m e)
    ∷ (8 ∶ row8 m e)
    ∷ []

-- ---- each of what it reads

-- 3. "missing 2, pcurve mark 7"
unfoldable pub pcurve_parts : List ℕ → List ℕ → ℕ → ℕ → List Part
pcurve_parts room w e i =
    part 1 (2 unless ltb i (word w FINS)) (this of_fin i) (this of_edge e)
    ∷ part 2 (7 if flag_at (words_of room w FINS i) AT_FIN_PCURVE) (this of_fin i) (this of_edge e)
    ∷ []

-- 4. "An end is none: 7", of the edge's words s
unfoldable pub ends_told : List ℕ → ℕ → Stop
ends_told s e = first_told (tell_at 4 1 (7 unless flag_at s AT_EDGE_START) 6 e 10 0) (tell_at 4 2 (7 unless flag_at s AT_EDGE_END) 6 e 10 0)

-- 5. "No curve: 1; curve missing: 2; not a line: 7"
unfoldable pub curve_told : Model → List ℕ → ℕ → Stop
curve_told m s e =
    first_told (tell_at 5 1 (1 unless flag_at s AT_EDGE_CURVE) 6 e 10 0)
    (first_told (tell_at 5 2 (2 unless ltb (word s AT_EDGE_CURVE_ID) m.curves.used) 8 (word s AT_EDGE_CURVE_ID) 6 e)
    (tell_at 5 3 (line_refusal (curve m (word s AT_EDGE_CURVE_ID))) 8 (word s AT_EDGE_CURVE_ID) 6 e))

-- 6. "Start, then end vertex missing: 2"
unfoldable pub vertices_told : List ℕ → List ℕ → ℕ → Stop
vertices_told w s e =
    first_told (tell_at 6 1 (2 unless ltb (word s AT_EDGE_START_ID) (word w VERTICES)) 7 (word s AT_EDGE_START_ID) 6 e)
    (tell_at 6 2 (2 unless ltb (word s AT_EDGE_END_ID) (word w VERTICES)) 7 (word s AT_EDGE_END_ID) 6 e)

unfoldable pub carried_told : Model → List ℕ → List ℕ → ℕ → Stop
carried_told m w s e = first_told (ends_told s e) (first_told (curve_told m s e) (vertices_told w s e))

-- 7, 8. of the edge's line and points, the edge e and its ends i and j
unfoldable pub span_told : Segment → ℕ → ℕ → ℕ → Stop
span_told s e i j =
    first_told (tell_at 7 1 (4 unless is_positive (increasing_s s.line.direction s.start s.end)) 6 e 10 0)
    (first_told (tell_at 8 1 (7 unless finite (low s)) 7 i 6 e)
    (first_told (tell_at 8 2 (7 unless finite (high s)) 7 j 6 e) (tell_at 8 3 (7 unless is_positive (span_s (low s) (high s))) 6 e 10 0)))
