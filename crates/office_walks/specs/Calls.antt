-- The walks over lent memory, by the office that asks (W-206): which number, which list. Definitions only.
use Rattle.std.specs.Prelude.{ℕ, List, Float}
use Rattle.meaning.specs.Walks.{face_walk, edge_walk, vertex_walk}
use Rattle.memory_layout.specs.Decode.{decode}
use Rattle.walk_answers.specs.Calls.{handed, faces_number, edges_number, vertices_number}
use Rattle.memory_offices.specs.Sight.{by_office, body_asked}

module _ (room w : List ℕ) (x : List Float) (o b : ℕ) where
  -- ---- `body_faces`

  unfoldable pub office_faces_number : List ℕ → List ℕ → ℕ
  office_faces_number face_marks out = by_office room w x o (faces_number room w x (body_asked room w x o b) face_marks out)

  unfoldable pub office_faces_handed : List ℕ → List ℕ → List ℕ
  office_faces_handed face_marks out = handed (office_faces_number face_marks out) (face_walk (decode room w x) (body_asked room w x o b))

  -- ---- `body_edges`

  unfoldable pub office_edges_number : List ℕ → List ℕ → List ℕ → ℕ
  office_edges_number face_marks edge_marks out = by_office room w x o (edges_number room w x (body_asked room w x o b) face_marks edge_marks out)

  unfoldable pub office_edges_handed : List ℕ → List ℕ → List ℕ → List ℕ
  office_edges_handed face_marks edge_marks out = handed (office_edges_number face_marks edge_marks out) (edge_walk (decode room w x) (body_asked room w x o b))

  -- ---- `body_vertices`

  unfoldable pub office_vertices_number : List ℕ → List ℕ → List ℕ → List ℕ → ℕ
  office_vertices_number face_marks edge_marks vertex_marks out = by_office room w x o (vertices_number room w x (body_asked room w x o b) face_marks edge_marks vertex_marks out)

  unfoldable pub office_vertices_handed : List ℕ → List ℕ → List ℕ → List ℕ → List ℕ
  office_vertices_handed face_marks edge_marks vertex_marks out = handed (office_vertices_number face_marks edge_marks vertex_marks out) (vertex_walk (decode room w x) (body_asked room w x o b))
