-- The number of a split: 01, "Every call tests 9 first", then "Splitting: order of tests", in three rows. Definitions only.
use Rattle.std.specs.Prelude.{ℕ, List, [], ◌∷◌, Float}
use Rattle.geom_lines_planes.specs.Refuse.{◌unless◌, ◌then◌}
use Rattle.meaning.specs.Model.{Model, Limits}
use Rattle.meaning.specs.Refuse.{first_refusal}
use Rattle.meaning.specs.Split.{test1, test2, test3, test4, test5, test6, test7, test8, test9, test10, test11, test12, test13, split_refusal}
use Rattle.meaning.specs.Offices.{office_split_refusal}
use Rattle.memory_layout.specs.Limits.{limits}
use Rattle.memory_layout.specs.Decode.{decode}
use Rattle.memory_layout.specs.Readable.{readable}

-- 9, then the thirteen tests
unfoldable pub split_number : List ℕ → List ℕ → List Float → ℕ → Float → ℕ
split_number room w x e t = 9 unless readable room w x then split_refusal (limits room) (decode room w x) e t

-- W-206: 9, then "1 for an office above 1, right after 9", then the thirteen tests of what the edge is for the office, "2 for a foreign body or edge, in the place of a missing one"
unfoldable pub office_split_number : List ℕ → List ℕ → List Float → ℕ → ℕ → Float → ℕ
office_split_number room w x o e t = 9 unless readable room w x then office_split_refusal (limits room) (decode room w x) o e t

-- ---- the rows that the inner functions test: 1 to 8, 9 to 11, 12 and 13

unfoldable pub edge_row : Model → ℕ → Float → ℕ
edge_row m e t = first_refusal (test1 t ∷ test2 m e ∷ test3 m e ∷ test4 m e ∷ test5 m e ∷ test6 m e ∷ test7 m e ∷ test8 m e ∷ [])

unfoldable pub place_row : Model → ℕ → Float → ℕ
place_row m e t = first_refusal (test9 m e t ∷ test10 m e t ∷ test11 m e t ∷ [])

unfoldable pub room_row : Limits → Model → ℕ → ℕ
room_row x m e = first_refusal (test12 m e ∷ test13 x m e ∷ [])
