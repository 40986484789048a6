-- The starts of fins, off the lent words. No reader of a public promise needs this file. Definitions only.
use Rattle.std.specs.Prelude.{ℕ, ◌+◌, ◌<◌, ◌≡◌, Bool, true, cond, ◌&&◌, List, eqb, ltb}
use Rattle.float_vectors.specs.declared.vector.Point3.{Point3}
use Rattle.geom_lines_planes.specs.Refuse.{◌unless◌, ◌then◌}
use Rattle.meaning.specs.Lists.{all, the}
use Rattle.meaning.specs.Model.{Model, point_of}
use Rattle.meaning.specs.Refuse.{first_of}
use Rattle.meaning.specs.Inquire.{start_of}
use Rattle.memory_layout.specs.Names.{FINS, EDGES, VERTICES, AT_FIN_SENSE, AT_EDGE_START, AT_EDGE_END}
use Rattle.memory_layout.specs.Layout.{word, words_of}
use Rattle.memory_layout.specs.Decode.{flag_at}
use Rattle.walk_sources.specs.Sources.{fin_edge}

-- where an edge's words have the start of a fin, by the fin's sense
unfoldable pub start_place : ℕ → ℕ
start_place sense = cond (eqb sense 0) AT_EDGE_START AT_EDGE_END

-- an end at a place of an edge's words: none 7, its vertex missing 2
unfoldable pub end_number : List ℕ → ℕ → ℕ → ℕ
end_number edge at used = 7 unless flag_at edge at then 2 unless ltb (word edge (at + 1)) used

-- a point of the polygon that a loop bounds (`oriented_face_volume`)
unfoldable pub start_point : Model → ℕ → Point3
start_point m i = point_of m (the (start_of m i))

module _ (room w : List ℕ) where
  -- `start_refusal` of meaning
  unfoldable pub start_number : ℕ → ℕ
  start_number i = end_number (words_of room w EDGES (fin_edge room w i)) (start_place (word (words_of room w FINS i) AT_FIN_SENSE)) (word w VERTICES)

  unfoldable pub start_id : ℕ → ℕ
  start_id i = word (words_of room w EDGES (fin_edge room w i)) (start_place (word (words_of room w FINS i) AT_FIN_SENSE) + 1)

  -- the fin and its edge exist
  unfoldable pub fin_whole : ℕ → Bool
  fin_whole i = ltb i (word w FINS) && ltb (fin_edge room w i) (word w EDGES)

  pub record Whole (i : ℕ) : Type 0 where
    pub fin : i < word w FINS
    pub edge : fin_edge room w i < word w EDGES

  -- the fins of a loop exist, with their edges and their starts
  pub record Rim (fins : List ℕ) : Type 0 where
    pub whole : all fin_whole fins ≡ true
    pub starts : first_of start_number fins ≡ 0
