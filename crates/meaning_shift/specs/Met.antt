-- What a body's walks meet: the edges of its faces' fins, and the ends of its edges. Assumes nothing.
use Rattle.std.specs.Prelude.{ℕ, ◌≡◌, true, ◌++◌}
use Rattle.std.proofs.Common.{◌∙◌}
use Rattle.meaning.specs.Lists.{member, joined}
use Rattle.meaning.specs.Model.{Model, shell, face, loop, fin, edge}
use Rattle.meaning.specs.Walks.{shells_of, face_walk, face_edges, edge_walk, edge_vertices, vertex_walk}
use Rattle.meaning_list_laws.specs.Lists.{member-firsts}
use Rattle.meaning_isolation.specs.Laws.{in-front, joined_in, map-in}

module _ (m : Model) (b : ℕ) where
  pub fin-edge-walked : (f l i : ℕ) → member f (face_walk m b) ≡ true → member l (face m f).loops ≡ true → member i (loop m l).fins ≡ true → member (fin m i).edge (edge_walk m b) ≡ true
  unfolding edge_walk
  fin-edge-walked f l i h k g =
      member-firsts (fin m i).edge (joined (face_edges m) (face_walk m b) ++ joined (λ s. (shell m s).wire_edges) (shells_of m b))
      ∙ in-front (fin m i).edge (joined (face_edges m) (face_walk m b)) (joined (λ s. (shell m s).wire_edges) (shells_of m b))
      (joined_in (face_edges m) (face_walk m b) f (fin m i).edge h
      (map-in (λ i. (fin m i).edge) (joined (λ l. (loop m l).fins) (face m f).loops) i (joined_in (λ l. (loop m l).fins) (face m f).loops l i k g)))

  pub end-walked : (e v : ℕ) → member e (edge_walk m b) ≡ true → member v (edge_vertices (edge m e)) ≡ true → member v (vertex_walk m b) ≡ true
  unfolding vertex_walk
  end-walked e v h g =
      member-firsts v (joined (λ e. edge_vertices (edge m e)) (edge_walk m b) ++ joined (λ s. (shell m s).acorn_vertices) (shells_of m b))
      ∙ in-front v (joined (λ e. edge_vertices (edge m e)) (edge_walk m b)) (joined (λ s. (shell m s).acorn_vertices) (shells_of m b))
      (joined_in (λ e. edge_vertices (edge m e)) (edge_walk m b) e v h g)
