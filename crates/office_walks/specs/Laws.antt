-- What an office is told is what the call of before tells of the body that the id is for it; above 1, nothing but the number. Assumes nothing.
use Rattle.std.specs.Prelude.{ℕ, ◌<◌, ◌≤◌, ◌≡◌, Bool, Float}
use Rattle.std.proofs.Math.Path.{refl}
use Rattle.std.proofs.Common.{sym, ap, ◌∙◌}
use Rattle.std.proofs.Math.Bool.{true, false}
use mathlib.Core.List.{List, []}
use Rattle.geom_lines_planes.specs.Refuse.{◌unless◌, ◌then◌}
use Rattle.meaning.specs.Walks.{face_walk, edge_walk, vertex_walk}
use Rattle.memory_layout.specs.Decode.{decode}
use Rattle.memory_layout.specs.Readable.{readable, tag_number}
use Rattle.walk_answers.specs.Calls.{handed, faces_number, faces_handed, edges_number, edges_handed, vertices_number, vertices_handed}
use Rattle.memory_offices.specs.Sight.{by_office, body_asked}
use Rattle.memory_offices.specs.Laws.{office-there, office-above}
use Rattle.office_walks.specs.Calls.{office_faces_number, office_faces_handed, office_edges_number, office_edges_handed, office_vertices_number, office_vertices_handed}

-- the number n and what is handed by it are those of an office
pub record Told (n : ℕ) (l : List ℕ) (k : ℕ) (part : List ℕ) : Type 0 where
  pub number : n ≡ k
  pub handed : l ≡ part

module _ (room w : List ℕ) (x : List Float) (o : ℕ) where
  -- the part of a list that is handed by a number
  pub handed-there : (n : ℕ) (l : List ℕ) → o ≤ 1 → handed (9 unless readable room w x then n) l ≡ handed (by_office room w x o (9 unless readable room w x then n)) l
  handed-there n l h = ap (λ k. handed k l) (sym (office-there room w x o n h))

  pub handed-above : (n : ℕ) (l : List ℕ) → 1 < o → [] ≡ handed (by_office room w x o n) l
  unfolding handed tag_number
  handed-above n l h = rw (office-above room w x o n h) (go (readable room w x))
    where
      go : (b : Bool) → [] ≡ handed (9 unless b then 1) l
      go true = refl
      go false = refl

  there : (n : ℕ) (walk : List ℕ) → o ≤ 1
      → Told (9 unless readable room w x then n) (handed (9 unless readable room w x then n) walk) (by_office room w x o (9 unless readable room w x then n)) (handed (by_office room w x o (9 unless readable room w x then n)) walk)
  there n walk h = record { number = sym (office-there room w x o n h); handed = handed-there n walk h }

  above : (n k : ℕ) (walk : List ℕ) → 1 < o → k ≡ tag_number room w x → Told k [] (by_office room w x o n) (handed (by_office room w x o n) walk)
  above n k walk h e = record { number = e ∙ sym (office-above room w x o n h); handed = handed-above n walk h }

  module _ (b : ℕ) where
    pub faces-there : (id : ℕ) (face_marks out : List ℕ) → id ≡ body_asked room w x o b → o ≤ 1
        → Told (faces_number room w x id face_marks out) (faces_handed room w x id face_marks out) (office_faces_number room w x o b face_marks out) (office_faces_handed room w x o b face_marks out)
    unfolding faces_number faces_handed office_faces_number office_faces_handed
    faces-there id face_marks out e h = rw e (there _ (face_walk (decode room w x) (body_asked room w x o b)) h)

    pub faces-above : (k : ℕ) (face_marks out : List ℕ) → 1 < o → k ≡ tag_number room w x → Told k [] (office_faces_number room w x o b face_marks out) (office_faces_handed room w x o b face_marks out)
    unfolding office_faces_number office_faces_handed
    faces-above k face_marks out h e = above _ k (face_walk (decode room w x) (body_asked room w x o b)) h e

    pub edges-there : (id : ℕ) (face_marks edge_marks out : List ℕ) → id ≡ body_asked room w x o b → o ≤ 1
        → Told (edges_number room w x id face_marks edge_marks out) (edges_handed room w x id face_marks edge_marks out) (office_edges_number room w x o b face_marks edge_marks out) (office_edges_handed room w x o b face_marks edge_marks out)
    unfolding edges_number edges_handed office_edges_number office_edges_handed
    edges-there id face_marks edge_marks out e h = rw e (there _ (edge_walk (decode room w x) (body_asked room w x o b)) h)

    pub edges-above : (k : ℕ) (face_marks edge_marks out : List ℕ) → 1 < o → k ≡ tag_number room w x → Told k [] (office_edges_number room w x o b face_marks edge_marks out) (office_edges_handed room w x o b face_marks edge_marks out)
    unfolding office_edges_number office_edges_handed
    edges-above k face_marks edge_marks out h e = above _ k (edge_walk (decode room w x) (body_asked room w x o b)) h e

    pub vertices-there : (id : ℕ) (face_marks edge_marks vertex_marks out : List ℕ) → id ≡ body_asked room w x o b → o ≤ 1
        → Told (vertices_number room w x id face_marks edge_marks vertex_marks out) (vertices_handed room w x id face_marks edge_marks vertex_marks out) (office_vertices_number room w x o b face_marks edge_marks vertex_marks out) (office_vertices_handed room w x o b face_marks edge_marks vertex_marks out)
    unfolding vertices_number vertices_handed office_vertices_number office_vertices_handed
    vertices-there id face_marks edge_marks vertex_marks out e h = rw e (there _ (vertex_walk (decode room w x) (body_asked room w x o b)) h)

    pub vertices-above : (k : ℕ) (face_marks edge_marks vertex_marks out : List ℕ) → 1 < o → k ≡ tag_number room w x → Told k [] (office_vertices_number room w x o b face_marks edge_marks vertex_marks out) (office_vertices_handed room w x o b face_marks edge_marks vertex_marks out)
    unfolding office_vertices_number office_vertices_handed
    vertices-above k face_marks edge_marks vertex_marks out h e = above _ k (vertex_walk (decode room w x) (body_asked room w x o b)) h e
