-- The walks over lent memory: which number, which list. Definitions only.
-- What is walked, and when 2 is given, stands in `meaning`, Walks.antt.
use Rattle.std.specs.Prelude.{ℕ, zero, suc, Bool, ◌&&◌, List, [], ◌++◌, leb, length, drop, Float}
use Rattle.geom_lines_planes.specs.Refuse.{◌unless◌, ◌then◌}
use Rattle.meaning.specs.Walks.{face_walk, faces_refusal, edge_walk, edges_refusal, vertex_walk, vertices_refusal}
use Rattle.memory_layout.specs.Names.{FACES, EDGES, VERTICES}
use Rattle.memory_layout.specs.Layout.{word}
use Rattle.memory_layout.specs.Decode.{decode}
use Rattle.memory_layout.specs.Readable.{readable}

-- 01, "Every call tests 9 first", "Marks shorter than their table's capacity give 8, right after 9", "In walks 2 precedes 8": a lent list shorter than the walk
abbrev pub numbered : Bool → Bool → ℕ → List ℕ → ℕ → ℕ
numbered tables marks followed walk space =
    9 unless tables
    then 8 unless marks
    then followed
    then 8 unless leb (length walk) space

-- the marks lent reach the capacity of table k
abbrev pub reach : List ℕ → ℕ → List ℕ → Bool
reach room k marks = leb (word room k) (length marks)

-- 01, "A walk hands back the filled front part of the caller's list", and "an empty part when it refuses"
unfoldable pub handed : ℕ → List ℕ → List ℕ
handed zero walk = walk
handed (suc n) walk = []

-- 01, "the rest is unchanged"
unfoldable pub in_front : List ℕ → List ℕ → List ℕ
in_front l out = l ++ drop (length l) out

module _ (room w : List ℕ) (x : List Float) (b : ℕ) where
  -- ---- `body_faces`

  unfoldable pub faces_number : List ℕ → List ℕ → ℕ
  faces_number face_marks out =
      numbered (readable room w x) (reach room FACES face_marks) (faces_refusal (decode room w x) b) (face_walk (decode room w x) b) (length out)

  unfoldable pub faces_handed : List ℕ → List ℕ → List ℕ
  faces_handed face_marks out = handed (faces_number face_marks out) (face_walk (decode room w x) b)

  -- ---- `body_edges`

  unfoldable pub edges_number : List ℕ → List ℕ → List ℕ → ℕ
  edges_number face_marks edge_marks out =
      numbered (readable room w x) (reach room FACES face_marks && reach room EDGES edge_marks) (edges_refusal (decode room w x) b) (edge_walk (decode room w x) b) (length out)

  unfoldable pub edges_handed : List ℕ → List ℕ → List ℕ → List ℕ
  edges_handed face_marks edge_marks out = handed (edges_number face_marks edge_marks out) (edge_walk (decode room w x) b)

  -- ---- `body_vertices`

  unfoldable pub vertices_number : List ℕ → List ℕ → List ℕ → List ℕ → ℕ
  vertices_number face_marks edge_marks vertex_marks out =
      numbered (readable room w x) (reach room FACES face_marks && reach room EDGES edge_marks && reach room VERTICES vertex_marks) (vertices_refusal (decode room w x) b) (vertex_walk (decode room w x) b)
      (length out)

  unfoldable pub vertices_handed : List ℕ → List ℕ → List ℕ → List ℕ → List ℕ
  vertices_handed face_marks edge_marks vertex_marks out = handed (vertices_number face_marks edge_marks vertex_marks out) (vertex_walk (decode room w x) b)
