-- Why the box and the volume of a body are refused, in two models that are alike from it on. Assumes nothing.
use Rattle.std.specs.Prelude.{ℕ, ◌≡◌, true, length}
use Rattle.std.proofs.Common.{sym, ◌∙◌}
use Rattle.std.proofs.Math.Path.{ap, ap₂}
use mathlib.Core.List.{List, [], ◌∷◌, map}
use Rattle.std.proofs.Math.Dec.{eqb, ltb}
use Rattle.std.proofs.Math.ListN.{get_or}
use Rattle.float_vectors.specs.Space.{finite_point}
use Rattle.geom_lines_planes.specs.Refuse.{◌unless◌}
use Rattle.geom_carriers.specs.Found.{Found}
use Rattle.meaning.specs.Lists.{all, member, joined, the, is_some, is}
use Rattle.meaning.specs.Model.{Model, Face, Fin, Edge, Vertex, has, face, fin, edge, point_of, curve, surface}
use Rattle.meaning.specs.Refuse.{◌if◌}
use Rattle.meaning.specs.Walks.{face_walk, faces_refusal, edge_walk, edges_refusal, Ends, vertex_walk, vertices_refusal}
use Rattle.meaning.specs.Inquire.{require_polyhedral, Side, solid_sides, alike, rim, start_of}
use Rattle.meaning.specs.Faults.{of_body, of_shell, of_face, of_loop, of_fin, of_edge, of_vertex, no_line, no_plane}
use Rattle.meaning_list_laws.specs.Tests.{and_both, unless-zero}
use Rattle.meaning_list_laws.specs.Lists.{all-member}
use Rattle.meaning_isolation.specs.Reached.{faces_met, edges_met, curves_met, surfaces_met, Alike}
use Rattle.meaning_isolation.specs.Laws.{the-listed, carrier-same}
use Rattle.meaning_isolation.proofs.Walked as Walked
use Rattle.meaning_isolation.proofs.Measured as Measured
use Rattle.meaning_stops.specs.Stops.{Entity, this, this_curve, this_surface, nothing, Part, part}
use Rattle.meaning_stops.specs.Bodies.{vertex_parent, flat_parts, straight_parts, box_parts, start_parts, side_parts, sides_parts}
use Rattle.meaning_stops.specs.Laws.{parts-mapped, unless-all}
use Rattle.meaning_stop_laws.specs.Follows.{Follows, follows-none, follows-more, follows-append, follows-joined, follows_same, follows-mapped}
use Rattle.meaning_stop_laws.specs.Walked.{face-parent, edge-parent, vertex-parent}

module _ (m n : Model) (b : ℕ) (a : Alike m n b) where
  -- ---- 4. a face, where the faces can be walked

  flat-face : faces_refusal m b ≡ 0 → (f : ℕ) → member f (faces_met m b) ≡ true → Follows (flat_parts m b f) (flat_parts n b f)
  unfolding flat_parts
  flat-face z f met =
      follows-more _ _ _ _ (ap₂ (λ t p. part 1 (2 unless t) (this of_face f) p) (a.faces.there f met) (face-parent m n b a z f))
      (λ y. let h = unless-zero 1 (has m.faces f) y in
      let e : face m f ≡ face n f = a.faces.same f met h in
      follows-more _ _ _ _ (ap₂ (λ (d : Face) (p : Entity). part 2 (1 unless is_some d.surface) (this of_face f) p) e (face-parent m n b a z f))
      (λ x. let s = the (face m f).surface in
      let s-met = Walked.surface-in m b f met h s (the-listed (face m f).surface (unless-zero 0 (is_some (face m f).surface) x)) in
      follows-more _ _ _ _
      (ap (λ t. part 3 (2 unless t) (this_surface s) (this of_face f)) (a.surfaces.there s s-met)
      ∙ ap (λ (d : Face). part 3 (2 unless has n.surfaces (the d.surface)) (this_surface (the d.surface)) (this of_face f)) e)
      (λ _. follows-more _ _ _ _
      (ap (λ (k : Found). part 4 (7 if no_plane k) (this_surface s) (this of_face f)) (carrier-same m.surfaces n.surfaces (surfaces_met m b) s a.surfaces s-met)
      ∙ ap (λ (d : Face). part 4 (7 if no_plane (surface n (the d.surface))) (this_surface (the d.surface)) (this of_face f)) e)
      (λ _. follows-none))))

  pub flat-parts : faces_refusal m b ≡ 0 → Follows (joined (flat_parts m b) (face_walk m b)) (joined (flat_parts n b) (face_walk n b))
  flat-parts z =
      follows_same _ _ _ (follows-joined (flat_parts m b) (flat_parts n b) (face_walk m b) (λ f q. flat-face z f (Walked.face-met m n b a z f q)))
      (ap (joined (flat_parts n b)) (Walked.face-walk-same m n b a z))

  -- ---- 5. an edge, where the edges can be walked

  straight-edge : edges_refusal m b ≡ 0 → (e : ℕ) → member e (edges_met m b) ≡ true → Follows (straight_parts m b e) (straight_parts n b e)
  unfolding straight_parts
  straight-edge z e met =
      follows-more _ _ _ _ (ap₂ (λ t p. part 1 (2 unless t) (this of_edge e) p) (a.edges.there e met) (edge-parent m n b a z e))
      (λ y. let h = unless-zero 1 (has m.edges e) y in
      let q : edge m e ≡ edge n e = a.edges.same e met h in
      follows-more _ _ _ _ (ap₂ (λ (d : Edge) (p : Entity). part 2 (1 unless is_some d.curve) (this of_edge e) p) q (edge-parent m n b a z e))
      (λ x. let c = the (edge m e).curve in
      let c_met = Walked.curve-in m b e met h c (the-listed (edge m e).curve (unless-zero 0 (is_some (edge m e).curve) x)) in
      follows-more _ _ _ _
      (ap (λ t. part 3 (2 unless t) (this_curve c) (this of_edge e)) (a.curves.there c c_met)
      ∙ ap (λ (d : Edge). part 3 (2 unless has n.curves (the d.curve)) (this_curve (the d.curve)) (this of_edge e)) q)
      (λ _. follows-more _ _ _ _
      (ap (λ (k : Found). part 4 (7 if no_line k) (this_curve c) (this of_edge e)) (carrier-same m.curves n.curves (curves_met m b) c a.curves c_met)
      ∙ ap (λ (d : Edge). part 4 (7 if no_line (curve n (the d.curve))) (this_curve (the d.curve)) (this of_edge e)) q)
      (λ _. follows-none))))

  pub straight-parts : edges_refusal m b ≡ 0 → Follows (joined (straight_parts m b) (edge_walk m b)) (joined (straight_parts n b) (edge_walk n b))
  straight-parts z =
      follows_same _ _ _ (follows-joined (straight_parts m b) (straight_parts n b) (edge_walk m b) (λ e q. straight-edge z e (Walked.edge-met m n b a z e q)))
      (ap (joined (straight_parts n b)) (Walked.edge-walk-same m n b a z))

  -- ---- 6. the box's vertices, where they can be walked

  module _ (z : vertices_refusal m b ≡ 0) where
    abbrev missing : Model → ℕ → Part
    missing w v = part 1 (2 unless has w.vertices v) (this of_vertex v) (vertex_parent w b v)

    abbrev unbounded : Model → ℕ → Part
    unbounded w v = part 3 (4 unless finite_point (point_of w v)) (this of_vertex v) (vertex_parent w b v)

    walk : vertex_walk m b ≡ vertex_walk n b
    walk = Walked.vertex-walk-same m n b a z

    pub box-parts : Follows (box_parts m b) (box_parts n b)
    box-parts =
        follows-append (map (missing m) (vertex_walk m b)) (map (missing n) (vertex_walk n b)) _ _
        (follows_same _ _ _
        (follows-mapped (missing m) (missing n) (vertex_walk m b)
        (λ v q. ap₂ (λ t p. part 1 (2 unless t) (this of_vertex v) p) (a.vertices.there v (Walked.vertex-met m n b a z v q)) (vertex-parent m n b a z v)))
        (ap (map (missing n)) walk))
        (λ y. let there : all (has m.vertices) (vertex_walk m b) ≡ true = unless-zero 1 _ (unless-all 2 (has m.vertices) (vertex_walk m b) ∙ sym (parts-mapped (missing m) (vertex_walk m b)) ∙ y) in
        follows-more _ _ _ _ (ap (λ (l : List ℕ). part 2 (4 if eqb (length l) 0) (this of_body b) nothing) walk)
        (λ _. follows_same _ _ _
        (follows-mapped (unbounded m) (unbounded n) (vertex_walk m b)
        (λ v q. ap₂ (λ (d : Vertex) (p : Entity). part 3 (4 unless finite_point d.point) (this of_vertex v) p)
        (a.vertices.same v (Walked.vertex-met m n b a z v q) (all-member (has m.vertices) (vertex_walk m b) v there q)) (vertex-parent m n b a z v)))
        (ap (map (unbounded n)) walk)))

  -- ---- 8. the sides, where all faces are flat and all edges straight

  module _ (z : require_polyhedral m b ≡ 0) where
    edges-ok : edges_refusal m b ≡ 0
    edges-ok = Measured.edges-walked m n b a z

    start-parts : (f : ℕ) (g : member f (face_walk m b) ≡ true) (one : eqb (length (face m f).loops) 1 ≡ true) (i : ℕ) → member i (rim m f) ≡ true
        → Follows (start_parts m (get_or (face m f).loops 0 0) i) (start_parts n (get_or (face m f).loops 0 0) i)
    unfolding start_parts
    start-parts f g one i q =
        let l = get_or (face m f).loops 0 0 in
        let ends = Measured.ends_same m n b a z f g one i q in
        let same = Walked.fin-same m n b a edges-ok f g l i (Measured.only-in m n b a z f g one) q in
        follows-more _ _ _ _ (ap (λ (d : Ends). part 4 (7 unless is_some d.start) (this of_fin i) (this of_loop l)) ends)
        (λ y. follows-more _ _ _ _
        (ap (λ t. part 5 (2 unless t) (this of_vertex (the (start_of m i))) (this of_edge (fin m i).edge))
        (a.vertices.there (the (start_of m i)) (Measured.start-met m n b a z f g one i q (unless-zero 6 (is_some (start_of m i)) y)))
        ∙ ap₂ (λ (d : Ends) (k : Fin). part 5 (2 unless has n.vertices (the d.start)) (this of_vertex (the d.start)) (this of_edge k.edge)) ends same)
        (λ _. follows-none))

    side-parts : (s : Side) → member s.face (face_walk m b) ≡ true → Follows (side_parts m s) (side_parts n s)
    unfolding side_parts
    side-parts s g =
        let f = s.face in
        let whole : face m f ≡ face n f = Walked.face-same m n b a edges-ok f g in
        follows-more _ _ _ _ (ap (λ (d : Face). part 1 (1 if alike (is d.back s.shell) (is d.front s.shell)) (this of_face f) (this of_shell s.shell)) whole)
        (λ _. follows-more _ _ _ _ (ap (λ (d : Face). part 2 (7 unless eqb (length d.loops) 1) (this of_face f) (this of_shell s.shell)) whole)
        (λ y. let one = unless-zero 6 (eqb (length (face m f).loops) 1) y in
        let around = Measured.rim-same m n b a z f g one in
        follows-more _ _ _ _ (ap₂ (λ (l : List ℕ) (d : Face). part 3 (4 if ltb (length l) 3) (this of_loop (get_or d.loops 0 0)) (this of_face f)) around whole)
        (λ _. follows_same _ _ _ (follows-joined (start_parts m (get_or (face m f).loops 0 0)) (start_parts n (get_or (face m f).loops 0 0)) (rim m f) (start-parts f g one))
        (ap₂ (λ (l : List ℕ) (d : Face). joined (start_parts n (get_or d.loops 0 0)) l) around whole))))

    sides-in : (l : List Side) → Measured.sides_in (face_walk m b) l ≡ true → Follows (sides_parts m l) (sides_parts n l)
    unfolding sides_parts
    sides-in [] h = follows-none
    sides-in (s ∷ l) h =
        let t = and_both (member s.face (face_walk m b)) (Measured.sides_in (face_walk m b) l) h in
        follows-append (side_parts m s) (side_parts n s) (sides_parts m l) (sides_parts n l) (side-parts s t.0) (λ _. sides-in l t.1)

    pub sides-parts : Follows (sides_parts m (solid_sides m b)) (sides_parts n (solid_sides n b))
    sides-parts = follows_same _ _ _ (sides-in (solid_sides m b) (Measured.sides-walked m n b a z)) (ap (sides_parts n) (Measured.sides-same m n b a z))
