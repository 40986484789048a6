-- Why the walks of a body are refused, in two models that are alike from it on. Assumes nothing.
use Rattle.std.specs.Prelude.{ℕ, ◌≡◌, true}
use Rattle.std.proofs.Math.Path.{ap}
use Rattle.std.proofs.Common.{ap₂, ◌∙◌}
use mathlib.Core.List.{List, [], ◌∷◌, map}
use Rattle.std.proofs.Math.Option.{Option}
use Rattle.geom_lines_planes.specs.Refuse.{◌unless◌}
use Rattle.meaning.specs.Lists.{member, joined}
use Rattle.meaning.specs.Model.{Model, Body, Region, Shell, Face, Loop, Fin, has, body, region, shell, face, loop, fin, edge}
use Rattle.meaning.specs.Walks.{shells_of, face_walk, faces_refusal, edge_walk, edges_refusal, edge_vertices, vertices_refusal}
use Rattle.meaning.specs.Faults.{of_body, of_region, of_shell, of_face, of_loop, of_fin, of_edge}
use Rattle.meaning_list_laws.specs.Tests.{unless-zero}
use Rattle.meaning_isolation.specs.Reached.{regions_met, faces_met, loops_met, Alike}
use Rattle.meaning_isolation.specs.Laws.{joined-from, joined-alike}
use Rattle.meaning_isolation.proofs.Walked as Walked
use Rattle.meaning_stops.specs.Stops.{this, nothing, part}
use Rattle.meaning_stops.specs.Bodies.{first_with, named, face_parent, fins_of, edge_parent, vertex_parent, region_parts, face_parts, loop_parts, walked_face, edge_parts, vertex_parts}
use Rattle.meaning_stop_laws.specs.Follows.{Follows, follows-more, follows-joined, follows_same, follows-mapped, first_alike}

module _ (m n : Model) (b : ℕ) (a : Alike m n b) where
  -- ---- 1. the regions and shells

  region-parts : (r : ℕ) → member r (regions_met m b) ≡ true → Follows (region_parts m b r) (region_parts n b r)
  unfolding region_parts
  region-parts r met =
      follows-more _ _ _ _ (ap (λ t. part 2 (2 unless t) (this of_region r) (this of_body b)) (a.regions.there r met))
      (λ z. let h = unless-zero 1 (has m.regions r) z in
      follows_same _ _ _
      (follows-mapped (λ s. part 3 (2 unless has m.shells s) (this of_shell s) (this of_region r)) (λ s. part 3 (2 unless has n.shells s) (this of_shell s) (this of_region r)) (region m r).shells
      (λ s q. ap (λ t. part 3 (2 unless t) (this of_shell s) (this of_region r)) (a.shells.there s (Walked.shell-in m b r met h s q))))
      (ap (λ (d : Region). map (λ s. part 3 (2 unless has n.shells s) (this of_shell s) (this of_region r)) d.shells) (a.regions.same r met h)))

  pub face-parts : (asked : ℕ) → Follows (face_parts m asked b) (face_parts n asked b)
  face-parts asked =
      follows-more _ _ _ _ (ap (λ t. part 1 (2 unless t) (this of_body asked) nothing) (Walked.body-there m n b a))
      (λ z. let h = unless-zero 1 (has m.bodies b) z in
      follows_same _ _ _ (follows-joined (region_parts m b) (region_parts n b) (body m b).regions (λ r q. region-parts r (Walked.region-in m b h r q)))
      (ap (λ (d : Body). joined (region_parts n b) d.regions) (Walked.body_same m n b a h)))

  -- ---- 2. the faces, loops and fins, where the faces can be walked

  module _ (z : faces_refusal m b ≡ 0) where
    -- the first shell of the body whose list has an id
    shell-first : (of : Shell → List ℕ) (x : ℕ) → first_with (λ s. of (shell m s)) x (shells_of m b) ≡ first_with (λ s. of (shell n s)) x (shells_of n b)
    shell-first of x =
        first_alike (λ s. of (shell m s)) (λ s. of (shell n s)) x (shells_of m b) (λ s q. ap of (Walked.shell-same m n b a z s q))
        ∙ ap (first_with (λ s. of (shell n s)) x) (Walked.shells-same m n b a z)

    pub face-parent : (f : ℕ) → face_parent m b f ≡ face_parent n b f
    face-parent f = ap (λ (o : Option ℕ). named of_shell o nothing) (shell-first (λ d. d.faces) f)

    loop-parts : (f l : ℕ) → member l (loops_met m b) ≡ true → Follows (loop_parts m f l) (loop_parts n f l)
    unfolding loop_parts
    loop-parts f l met =
        follows-more _ _ _ _ (ap (λ t. part 2 (2 unless t) (this of_loop l) (this of_face f)) (a.loops.there l met))
        (λ y. let h = unless-zero 1 (has m.loops l) y in
        follows_same _ _ _
        (follows-mapped (λ i. part 3 (2 unless has m.fins i) (this of_fin i) (this of_loop l)) (λ i. part 3 (2 unless has n.fins i) (this of_fin i) (this of_loop l)) (loop m l).fins
        (λ i q. ap (λ t. part 3 (2 unless t) (this of_fin i) (this of_loop l)) (a.fins.there i (Walked.fin-seen m b i (Walked.fin-in m b l met h i q)))))
        (ap (λ (d : Loop). map (λ i. part 3 (2 unless has n.fins i) (this of_fin i) (this of_loop l)) d.fins) (a.loops.same l met h)))

    walked-face : (f : ℕ) → member f (faces_met m b) ≡ true → Follows (walked_face m b f) (walked_face n b f)
    unfolding walked_face
    walked-face f met =
        follows-more _ _ _ _ (ap₂ (λ t p. part 1 (2 unless t) (this of_face f) p) (a.faces.there f met) (face-parent f))
        (λ y. let h = unless-zero 1 (has m.faces f) y in
        follows_same _ _ _ (follows-joined (loop_parts m f) (loop_parts n f) (face m f).loops (λ l q. loop-parts f l (Walked.loop-in m b f met h l q)))
        (ap (λ (d : Face). joined (loop_parts n f) d.loops) (a.faces.same f met h)))

    pub edge-parts : Follows (edge_parts m b) (edge_parts n b)
    edge-parts =
        follows_same _ _ _ (follows-joined (walked_face m b) (walked_face n b) (face_walk m b) (λ f q. walked-face f (Walked.face-met m n b a z f q)))
        (ap (joined (walked_face n b)) (Walked.face-walk-same m n b a z))

  -- ---- 3. the edges, where they can be walked

  module _ (z : edges_refusal m b ≡ 0) where
    abbrev first-ok : faces_refusal m b ≡ 0
    first-ok = (Walked.walked m n b a z).0

    fins-of : (f : ℕ) → member f (face_walk m b) ≡ true → fins_of m f ≡ fins_of n f
    fins-of f q =
        joined-alike (λ l. (loop m l).fins) (λ l. (loop n l).fins) (face m f).loops (λ l p. ap (λ (d : Loop). d.fins) (Walked.loop-same m n b a z f q l p))
        ∙ ap (λ (d : Face). joined (λ l. (loop n l).fins) d.loops) (Walked.face-same m n b a z f q)

    fin-first : (e : ℕ) → first_with (λ i. (fin m i).edge ∷ []) e (joined (fins_of m) (face_walk m b)) ≡ first_with (λ i. (fin n i).edge ∷ []) e (joined (fins_of n) (face_walk n b))
    fin-first e =
        first_alike (λ i. (fin m i).edge ∷ []) (λ i. (fin n i).edge ∷ []) e (joined (fins_of m) (face_walk m b))
        (λ i q. let p = joined-from (fins_of m) (face_walk m b) i q in
        let o = joined-from (λ l. (loop m l).fins) (face m p.0).loops i p.2 in
        ap (λ (d : Fin). d.edge ∷ []) (Walked.fin-same m n b a z p.0 p.1 o.0 i o.1 o.2))
        ∙ ap (first_with (λ i. (fin n i).edge ∷ []) e)
        (joined-alike (fins_of m) (fins_of n) (face_walk m b) fins-of ∙ ap (joined (fins_of n)) (Walked.face-walk-same m n b a first-ok))

    pub edge-parent : (e : ℕ) → edge_parent m b e ≡ edge_parent n b e
    edge-parent e =
        ap₂ (λ (o p : Option ℕ). named of_fin o (named of_shell p nothing)) (fin-first e) (shell-first first-ok (λ d. d.wire_edges) e)

    pub vertex-parts : Follows (vertex_parts m b) (vertex_parts n b)
    vertex-parts =
        follows_same _ _ _
        (follows-mapped (λ e. part 1 (2 unless has m.edges e) (this of_edge e) (edge_parent m b e)) (λ e. part 1 (2 unless has n.edges e) (this of_edge e) (edge_parent n b e)) (edge_walk m b)
        (λ e q. ap₂ (λ t p. part 1 (2 unless t) (this of_edge e) p) (a.edges.there e (Walked.edge-met m n b a z e q)) (edge-parent e)))
        (ap (map (λ e. part 1 (2 unless has n.edges e) (this of_edge e) (edge_parent n b e))) (Walked.edge-walk-same m n b a z))

  -- ---- a vertex's parent, where the vertices can be walked

  module _ (z : vertices_refusal m b ≡ 0) where
    pub vertex-parent : (v : ℕ) → vertex_parent m b v ≡ vertex_parent n b v
    vertex-parent v =
        let ok = (Walked.reached m n b a z).0 in
        ap₂ (λ (o p : Option ℕ). named of_edge o (named of_shell p nothing))
        (first_alike (λ e. edge_vertices (edge m e)) (λ e. edge_vertices (edge n e)) v (edge_walk m b)
        (λ e q. let t = Walked.edge-there m n b a z e q in ap edge_vertices (a.edges.same e t.0 t.1))
        ∙ ap (first_with (λ e. edge_vertices (edge n e)) v) (Walked.edge-walk-same m n b a ok))
        (shell-first (Walked.walked m n b a ok).0 (λ d. d.acorn_vertices) v)
