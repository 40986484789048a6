-- The three walks and `fin_vertices` (model.rs; 01, "Walks"). Definitions only.
-- A walk refuses with 2 where a record that it follows is missing. The ids that it lists are not followed: they may name no record.
use Rattle.std.specs.Prelude.{ℕ, Bool, ◌&&◌, List, ◌++◌, map}
use Rattle.std.proofs.Math.Option.{Option}
use Rattle.geom_lines_planes.specs.Refuse.{◌unless◌, ◌then◌}
use Rattle.meaning.specs.Lists.{all, joined, firsts, listed}
use Rattle.meaning.specs.Model.{Model, Edge, Sense, positive, negative, has, body, region, shell, face, loop, fin, edge}
use Rattle.meaning.specs.Refuse.{Answer, answered}

-- the shells of a body: 01, "regions, shells .. in list order"
abbrev pub shells_of : Model → ℕ → List ℕ
shells_of m b = joined (λ r. (region m r).shells) (body m b).regions

-- ---- `body_faces`: 01, "regions, shells, faces in list order, each at its first meeting"

unfoldable pub face_walk : Model → ℕ → List ℕ
face_walk m b = firsts (joined (λ s. (shell m s).faces) (shells_of m b))

-- the region exists, and so do the shells that it lists
abbrev pub region_followed : Model → ℕ → Bool
region_followed m r = has m.regions r && all (has m.shells) (region m r).shells

unfoldable pub faces_refusal : Model → ℕ → ℕ
faces_refusal m b = 2 unless has m.bodies b && all (region_followed m) (body m b).regions

abbrev pub body_faces : Model → ℕ → Answer (List ℕ)
body_faces m b = answered (faces_refusal m b) (face_walk m b)

-- ---- `body_edges`: 01, "over those faces their loops' fins, then wire edges of the shells"

-- the edges of a face's loops' fins
abbrev pub face_edges : Model → ℕ → List ℕ
face_edges m f = map (λ i. (fin m i).edge) (joined (λ l. (loop m l).fins) (face m f).loops)

unfoldable pub edge_walk : Model → ℕ → List ℕ
edge_walk m b = firsts (joined (face_edges m) (face_walk m b) ++ joined (λ s. (shell m s).wire_edges) (shells_of m b))

-- the loop exists, and so do the fins that it lists; the face, its loops and their fins
abbrev pub loop_followed : Model → ℕ → Bool
loop_followed m l = has m.loops l && all (has m.fins) (loop m l).fins

abbrev pub face_followed : Model → ℕ → Bool
face_followed m f = has m.faces f && all (loop_followed m) (face m f).loops

unfoldable pub edges_refusal : Model → ℕ → ℕ
edges_refusal m b = faces_refusal m b then 2 unless all (face_followed m) (face_walk m b)

abbrev pub body_edges : Model → ℕ → Answer (List ℕ)
body_edges m b = answered (edges_refusal m b) (edge_walk m b)

-- ---- `body_vertices`: 01, "over those edges start then end, then acorn vertices"

-- 01, "Ends that are none are skipped"
abbrev pub edge_vertices : Edge → List ℕ
edge_vertices e = listed e.start ++ listed e.end

unfoldable pub vertex_walk : Model → ℕ → List ℕ
vertex_walk m b =
    firsts (joined (λ e. edge_vertices (edge m e)) (edge_walk m b) ++ joined (λ s. (shell m s).acorn_vertices) (shells_of m b))

unfoldable pub vertices_refusal : Model → ℕ → ℕ
vertices_refusal m b = edges_refusal m b then 2 unless all (has m.edges) (edge_walk m b)

abbrev pub body_vertices : Model → ℕ → Answer (List ℕ)
body_vertices m b = answered (vertices_refusal m b) (vertex_walk m b)

-- ---- `fin_vertices`: the ends of a fin's edge, in the fin's direction

pub record Ends : Type 0 where
  pub start : Option ℕ
  pub end : Option ℕ

abbrev pub directed : Sense → Edge → Ends
directed positive e = record { start = e.start; end = e.end }
directed negative e = record { start = e.end; end = e.start }

abbrev pub ends_of : Model → ℕ → Ends
ends_of m i = directed (fin m i).sense (edge m (fin m i).edge)

-- the fin and its edge exist
abbrev pub readable_fin : Model → ℕ → Bool
readable_fin m i = has m.fins i && has m.edges (fin m i).edge

abbrev pub fin_vertices : Model → ℕ → Answer Ends
fin_vertices m i = answered (2 unless readable_fin m i) (ends_of m i)
