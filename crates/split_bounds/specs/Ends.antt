-- The tests of an edge before its points can be read. Definitions only.
use Rattle.std.specs.Prelude.{ℕ, ◌&&◌, List, [], ◌∷◌}
use Rattle.geom_lines_planes.specs.Refuse.{◌unless◌, ◌then◌}
use Rattle.geom_carriers.specs.Queries.{line_refusal}
use Rattle.meaning.specs.Model.{Model, has, curve}
use Rattle.meaning.specs.Refuse.{first_refusal}
use Rattle.meaning.specs.Split.{test2, test4, test5, test6}
use Rattle.memory_layout.specs.Names.{AT_EDGE_START, AT_EDGE_START_ID, AT_EDGE_END, AT_EDGE_END_ID, AT_EDGE_CURVE, AT_EDGE_CURVE_ID}
use Rattle.memory_layout.specs.Layout.{word}
use Rattle.memory_layout.specs.Decode.{flag_at}

-- tests 2 and 4 to 6
unfoldable pub ends_refusal : Model → ℕ → ℕ
ends_refusal m e = first_refusal (test2 m e ∷ test4 m e ∷ test5 m e ∷ test6 m e ∷ [])

-- tests 4 to 6, of the edge's words
unfoldable pub carrier_refusal : Model → List ℕ → ℕ
carrier_refusal m s =
    7 unless flag_at s AT_EDGE_START && flag_at s AT_EDGE_END
    then 1 unless flag_at s AT_EDGE_CURVE
    then line_refusal (curve m (word s AT_EDGE_CURVE_ID))
    then 2 unless has m.vertices (word s AT_EDGE_START_ID)
    then 2 unless has m.vertices (word s AT_EDGE_END_ID)
