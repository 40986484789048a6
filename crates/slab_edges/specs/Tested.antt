-- An edge and a vertex by their rules, off the lent words. No reader of a public promise needs this file. Definitions only.
use Rattle.std.specs.Prelude.{ℕ, suc, ◌+◌, Bool, cond, ◌&&◌, List, eqb, ltb}
use Rattle.geom_lines_planes.specs.Refuse.{◌unless◌}
use Rattle.meaning.specs.Model.{Model, has}
use Rattle.meaning_slabs.specs.Slabs.{along_axis, grid_vertex}
use Rattle.memory_layout.specs.Layout.{word}
use Rattle.memory_layout.specs.Decode.{flag_at}

abbrev pub GRID : ℕ
GRID = 5

-- an end at a place of an edge's words, and its vertex
unfoldable pub stands_at : List ℕ → ℕ → ℕ → Bool
stands_at edge at used = flag_at edge at && ltb (word edge (at + 1)) used

-- rule 5 of a vertex; else rule 4 of an edge, where it is there
unfoldable pub id_tested : Model → ℕ → ℕ → ℕ
id_tested m rule i = cond (eqb rule GRID) (suc i unless grid_vertex m i) (cond (has m.edges i) (suc i unless along_axis m i) 0)
