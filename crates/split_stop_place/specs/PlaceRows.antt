-- Rows 9 to 11 of a split's tests, and of 9 and 10 what the code reads. `Laws.antt` says that they are the rows of `meaning_stops`. Definitions only.
use Rattle.std.specs.Prelude.{ℕ, List, [], ◌∷◌, Float}
use Rattle.float_vectors.specs.declared.vector.Point3.{Point3}
use Rattle.float_vectors.specs.Space.{finite_point}
use Rattle.geom_lines_planes.specs.Refuse.{◌unless◌}
use Rattle.geom_signs.specs.Signs.{apart_s}
use Rattle.meaning.specs.Model.{Model}
use Rattle.meaning.specs.Split.{is_positive}
use Rattle.meaning_stops.specs.Stops.{Row, ◌∶◌}
use Rattle.meaning_stops.specs.Splits.{row9, row10, row11}
use Rattle.split_segment.specs.declared.segment.Segment.{Segment}
use Rattle.split_stop_parts.specs.declared.Stop.{Stop}
use Rattle.split_stop_parts.specs.Told.{tell_at, first_told}

unfoldable pub place_rows : Model → ℕ → Float → List Row
place_rows m e t = (9 ∶ row9 m e t) ∷ (10 ∶ row10 m e t) ∷ (11 ∶ row11 m e t) ∷ []

-- 9, 10. of the edge's line and points, the split point p, the edge e and its ends i and j
unfoldable pub point_told : Segment → Point3 → Float → ℕ → ℕ → ℕ → Stop
point_told s p precision e i j =
    first_told (tell_at 9 1 (4 unless finite_point p) 6 e 10 0)
    (first_told (tell_at 10 1 (4 unless is_positive (apart_s p s.start precision)) 7 i 6 e) (tell_at 10 2 (4 unless is_positive (apart_s p s.end precision)) 7 j 6 e))
