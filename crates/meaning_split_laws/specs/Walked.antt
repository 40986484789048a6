-- The walks of a well-formed model: none is refused, and what they list exists. Assumes nothing.
use Rattle.std.specs.Prelude.{ℕ, ◌<◌, ◌≡◌, true, ◌++◌}
use Rattle.std.proofs.Math.Path.{refl}
use Rattle.std.proofs.Math.Option.{Option, none, some}
use Rattle.std.proofs.Math.Dec.{ltb}
use borrow.Author.Tests.{ltb-true, lt-ltb}
use Rattle.meaning.specs.Lists.{all, member, joined, listed}
use Rattle.meaning.specs.Model.{Model, body, region, shell, face, loop, fin, edge, Limits}
use Rattle.meaning.specs.Walks.{shells_of, face_walk, region_followed, faces_refusal, face_edges, edge_walk, loop_followed, face_followed, edges_refusal, edge_vertices, vertex_walk, vertices_refusal}
use Rattle.meaning.specs.Formed.{below_maybe, WellFormed, has_edge}
use Rattle.meaning_list_laws.specs.Lists.{all-imply, all_map, all_append, all-joined, all_firsts}

module _ (x : Limits) (m : Model) (w : WellFormed x m) (b : ℕ) (hb : b < m.bodies.used) where
  pub shells-there : all (λ s. ltb s m.shells.used) (shells_of m b) ≡ true
  shells-there =
      all-joined (λ s. ltb s m.shells.used) (λ r. ltb r m.regions.used) (λ r. (region m r).shells) (body m b).regions
      (λ r h. w.ids.region-shells r (ltb-true r m.regions.used h)) (w.ids.body-regions b hb)

  pub faces-there : all (λ f. ltb f m.faces.used) (face_walk m b) ≡ true
  unfolding face_walk
  faces-there =
      all_firsts (λ f. ltb f m.faces.used) (joined (λ s. (shell m s).faces) (shells_of m b))
      (all-joined (λ f. ltb f m.faces.used) (λ s. ltb s m.shells.used) (λ s. (shell m s).faces) (shells_of m b)
      (λ s h. w.ids.shell-faces s (ltb-true s m.shells.used h)) shells-there)

  face-edges-there : (f : ℕ) → ltb f m.faces.used ≡ true → all (λ e. ltb e m.edges.used) (face_edges m f) ≡ true
  face-edges-there f h =
      all_map (λ e. ltb e m.edges.used) (λ i. ltb i m.fins.used) (λ i. (fin m i).edge) (joined (λ l. (loop m l).fins) (face m f).loops)
      (λ i q. lt-ltb (fin m i).edge m.edges.used (w.ids.fin-edge i (ltb-true i m.fins.used q)))
      (all-joined (λ i. ltb i m.fins.used) (λ l. ltb l m.loops.used) (λ l. (loop m l).fins) (face m f).loops
      (λ l q. w.ids.loop-fins l (ltb-true l m.loops.used q)) (w.ids.face-loops f (ltb-true f m.faces.used h)))

  pub edges-there : all (λ e. ltb e m.edges.used) (edge_walk m b) ≡ true
  unfolding edge_walk
  edges-there =
      all_firsts (λ e. ltb e m.edges.used) (joined (face_edges m) (face_walk m b) ++ joined (λ s. (shell m s).wire_edges) (shells_of m b))
      (all_append (λ e. ltb e m.edges.used) (joined (face_edges m) (face_walk m b)) (joined (λ s. (shell m s).wire_edges) (shells_of m b))
      (all-joined (λ e. ltb e m.edges.used) (λ f. ltb f m.faces.used) (face_edges m) (face_walk m b) face-edges-there faces-there)
      (all-joined (λ e. ltb e m.edges.used) (λ s. ltb s m.shells.used) (λ s. (shell m s).wire_edges) (shells_of m b)
      (λ s h. w.ids.shell-wire-edges s (ltb-true s m.shells.used h)) shells-there))

  ends_there : (a c : Option ℕ) → below_maybe m.vertices.used a ≡ true → below_maybe m.vertices.used c ≡ true → all (λ v. ltb v m.vertices.used) (listed a ++ listed c) ≡ true
  unfolding all
  ends_there none none p q = refl
  ends_there none (some v) p q = rw q
  ends_there (some u) none p q = rw p
  ends_there (some u) (some v) p q = rw (p, q)

  pub vertices-there : all (λ v. ltb v m.vertices.used) (vertex_walk m b) ≡ true
  unfolding vertex_walk
  vertices-there =
      all_firsts (λ v. ltb v m.vertices.used) (joined (λ e. edge_vertices (edge m e)) (edge_walk m b) ++ joined (λ s. (shell m s).acorn_vertices) (shells_of m b))
      (all_append (λ v. ltb v m.vertices.used) (joined (λ e. edge_vertices (edge m e)) (edge_walk m b)) (joined (λ s. (shell m s).acorn_vertices) (shells_of m b))
      (all-joined (λ v. ltb v m.vertices.used) (λ e. ltb e m.edges.used) (λ e. edge_vertices (edge m e)) (edge_walk m b)
      (λ e h. ends_there (edge m e).start (edge m e).end (w.ids.edge-start e (ltb-true e m.edges.used h)) (w.ids.edge-end e (ltb-true e m.edges.used h))) edges-there)
      (all-joined (λ v. ltb v m.vertices.used) (λ s. ltb s m.shells.used) (λ s. (shell m s).acorn_vertices) (shells_of m b)
      (λ s h. w.ids.shell-acorn-vertices s (ltb-true s m.shells.used h)) shells-there))

  -- ---- no walk is refused

  pub faces-given : faces_refusal m b ≡ 0
  unfolding faces_refusal
  faces-given =
      rw (
        lt-ltb b m.bodies.used hb,
        all-imply (region_followed m) (λ r. ltb r m.regions.used) (body m b).regions (λ r h. rw (h, w.ids.region-shells r (ltb-true r m.regions.used h))) (w.ids.body-regions b hb),
      )

  loop-followed : (l : ℕ) → ltb l m.loops.used ≡ true → loop_followed m l ≡ true
  loop-followed l h = rw (h, w.ids.loop-fins l (ltb-true l m.loops.used h))

  face-followed : (f : ℕ) → ltb f m.faces.used ≡ true → face_followed m f ≡ true
  face-followed f h =
      rw (
        h,
        all-imply (loop_followed m) (λ l. ltb l m.loops.used) (face m f).loops loop-followed (w.ids.face-loops f (ltb-true f m.faces.used h)),
      )

  pub edges-given : edges_refusal m b ≡ 0
  unfolding edges_refusal
  edges-given = rw (faces-given, all-imply (face_followed m) (λ f. ltb f m.faces.used) (face_walk m b) face-followed faces-there)

  pub vertices-given : vertices_refusal m b ≡ 0
  unfolding vertices_refusal
  vertices-given = rw (edges-given, edges-there)

  -- a body has the edges of its edge walk
  pub has-edge : (e : ℕ) → has_edge m b e ≡ member e (edge_walk m b)
  has-edge e = rw edges-given
