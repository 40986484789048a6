-- The report of a body, and whether it is fit to saw, in two models that are alike from it on. It rests on the walks. Assumes nothing.
use Prim.Native.Nat.{ℕ}
use Rattle.std.specs.Prelude.{◌≡◌, Bool, true, false, ◌||◌, length, Float}
use Rattle.std.proofs.Math.Path.{refl, ap, ap₂}
use Rattle.std.proofs.Common.{sym, ◌∙◌}
use Rattle.std.proofs.Math.Bool.{not, cond, ◌&&◌}
use Rattle.std.proofs.lemmas.Bool.{false≢true}
use mathlib.Core.List.{[], List, ◌∷◌, ◌++◌}
use Rattle.std.proofs.Math.Option.{Option, none, some}
use Rattle.std.proofs.Math.Dec.{eqb, leb}
use borrow.Author.Tests.{eqb-true}
use Rattle.float_vectors.specs.declared.vector.Point3.{Point3}
use Rattle.geom_lines_planes.specs.declared.tolerance.Version.{Version}
use Rattle.geom_lines_planes.specs.Geometry.{nearest, effective}
use Rattle.geom_lines_planes.specs.Refuse.{◌unless◌, ◌then◌}
use Rattle.geom_carriers.specs.Found.{Found}
use Rattle.geom_carriers.specs.Queries.{the_line}
use Rattle.geom_queries.specs.Queries.{project_refusal}
use Rattle.meaning.specs.Lists.{run, all, any, member, joined, rotated, listed, the, is_some, is, same}
use Rattle.meaning.specs.Model.{Model, Body, Region, Shell, Face, Loop, Fin, Edge, Vertex, has, body, region, shell, face, loop, fin, edge, vertex, point_of, curve, surface}
use Rattle.meaning.specs.Walks.{shells_of, face_walk, edge_walk, faces_refusal, edges_refusal, edge_vertices, Ends, directed, ends_of, readable_fin}
use Rattle.meaning.specs.Inquire.{is_solid}
use Rattle.meaning.specs.Faults.{Finding, Asked, about, of_vertex, fault, skipped, only_if, curve_test, point_on_surface, end_tests, projected, sample_at, sample_test, sample_tests, other_ring, carried, fin_geometry, CheckOptions, fin_findings, open_at, opens, open_findings, loop_findings, checked_from, face_findings, shell_findings, region_findings, layout, same_sense, manifold, manifold_edge, manifold_edges, findings, faults_of, report_of, check_refusal, check_body, sawing, is_valid, has_face, solid_face, own_shell, own_shells, whole_solid, sawable, fit_to_saw}
use Rattle.meaning_list_laws.specs.Tests.{and_both, then-zero, unless-zero}
use Rattle.meaning_list_laws.specs.Lists.{member-firsts, member-head, member-tail, all-member}
use Rattle.meaning_list_laws.specs.Findings.{NoFault, regions-followed, faces-exist}
use Rattle.meaning_isolation.specs.Reached.{regions_met, shells_met, faces_met, loops_met, fins_met, fins_seen, edges_met, vertices_met, curves_met, surfaces_met, Alike}
use Rattle.meaning_isolation.specs.Laws.{and_same, cond_same, answered-same, in-front, behind, all_alike, any-alike, joined-alike, carrier-same, joined_in}
use Rattle.meaning_isolation.proofs.Walked as Walked
use Rattle.meaning_isolation.specs.Reported.{rotated-from, tested}

module _ (m n : Model) (b : ℕ) (a : Alike m n b) where
  -- ---- geometry: of an edge that is there, its curve and a surface

  module _ (e : ℕ) (met : member e (edges_met m b) ≡ true) (there : has m.edges e ≡ true) where
    pub edge_same : edge m e ≡ edge n e
    edge_same = a.edges.same e met there

    module _ (c s : ℕ) (c_met : member c (curves_met m b) ≡ true) (s-met : member s (surfaces_met m b) ≡ true) where
      pub curve-same : curve m c ≡ curve n c
      curve-same = carrier-same m.curves n.curves (curves_met m b) c a.curves c_met

      pub surface-same : surface m s ≡ surface n s
      surface-same = carrier-same m.surfaces n.surfaces (surfaces_met m b) s a.surfaces s-met

      on-surface : (p : Point3) (t : Float) (k : ℕ) (q : Asked) → point_on_surface m s p t k q ≡ point_on_surface n s p t k q
      unfolding point_on_surface
      on-surface p t k q = rw surface-same

      tested-same : (v : ℕ) → vertex m v ≡ vertex n v → curve_test m e c v ≡ curve_test n e c v
      unfolding curve_test
      tested-same v w =
          ap (λ (r : Version). tested r m.precision (curve m c) (vertex m v) (edge m e) e v) a.version
          ∙ ap (λ (p : Float). tested n.version p (curve m c) (vertex m v) (edge m e) e v) a.precision
          ∙ ap (λ (f : Found). tested n.version n.precision f (vertex m v) (edge m e) e v) curve-same
          ∙ ap (λ (d : Vertex). tested n.version n.precision (curve n c) d (edge m e) e v) w
          ∙ ap (λ (d : Edge). tested n.version n.precision (curve n c) (vertex n v) d e v) edge_same

      end_same : (v : ℕ) → member v (vertices_met m b) ≡ true → end_tests m e c s v ≡ end_tests n e c s v
      unfolding end_tests
      end_same v v-met =
          cond_same (has m.vertices v) (has n.vertices v) _ _ [] [] (a.vertices.there v v-met)
          (λ h. let w : vertex m v ≡ vertex n v = a.vertices.same v v-met h in
          ap₂ ◌++◌ (tested-same v w)
          (on-surface (point_of m v) (effective m.version (vertex m v).tolerance m.precision) 23 (about of_vertex v)
          ∙ ap (λ (r : Version). point_on_surface n s (point_of m v) (effective r (vertex m v).tolerance m.precision) 23 (about of_vertex v)) a.version
          ∙ ap (λ (p : Float). point_on_surface n s (point_of m v) (effective n.version (vertex m v).tolerance p) 23 (about of_vertex v)) a.precision
          ∙ ap (λ (d : Vertex). point_on_surface n s d.point (effective n.version d.tolerance n.precision) 23 (about of_vertex v)) w))
          (λ _. refl)

      pub projected-same : (o : Option ℕ) → ((v : ℕ) → member v (listed o) ≡ true → member v (vertices_met m b) ≡ true) → projected m c o ≡ projected n c o
      projected-same none h = refl
      projected-same (some v) h =
          and_same (has m.vertices v) (has n.vertices v) _ _ (a.vertices.there v (h v (member-head v [])))
          (λ t. ap₂ (λ (f : Found) (d : Vertex). eqb (project_refusal f d.point) 0) curve-same (a.vertices.same v (h v (member-head v [])) t))

      -- an end that has projected is there
      pub point-same : (o : Option ℕ) → ((v : ℕ) → member v (listed o) ≡ true → member v (vertices_met m b) ≡ true) → projected m c o ≡ true → point_of m (the o) ≡ point_of n (the o)
      point-same none h p = absurd (false≢true p)
      point-same (some v) h p =
          let t = (and_both (has m.vertices v) (eqb (project_refusal (curve m c) (point_of m v)) 0) p).0 in
          ap (λ (d : Vertex). d.point) (a.vertices.same v (h v (member-head v [])) t)

      sample-same : (t : Float) → sample_test m e c s t ≡ sample_test n e c s t
      unfolding sample_test point_on_surface
      sample-same t = rw (curve-same, edge_same, surface-same, a.version, a.precision)

      end-listed : (v : ℕ) → member v (edge_vertices (edge m e)) ≡ true → member v (vertices_met m b) ≡ true
      end-listed = Walked.vertex-in m b e met there

      pub start-met : (v : ℕ) → member v (listed (edge m e).start) ≡ true → member v (vertices_met m b) ≡ true
      start-met v g = end-listed v (in-front v (listed (edge m e).start) (listed (edge m e).end) g)

      pub stop-met : (v : ℕ) → member v (listed (edge m e).end) ≡ true → member v (vertices_met m b) ≡ true
      stop-met v g = end-listed v (behind v (listed (edge m e).start) (listed (edge m e).end) g)

      samples-same : (k : ℕ) → sample_tests m k e c s ≡ sample_tests n k e c s
      unfolding sample_tests
      samples-same k =
          cond_same (projected m c (edge m e).start && projected m c (edge m e).end) (projected n c (edge n e).start && projected n c (edge n e).end) _ _ [] []
          (ap₂ ◌&&◌ (projected-same (edge m e).start start-met ∙ ap (λ (d : Edge). projected n c d.start) edge_same) (projected-same (edge m e).end stop-met ∙ ap (λ (d : Edge). projected n c d.end) edge_same))
          (λ h. let p = and_both (projected m c (edge m e).start) (projected m c (edge m e).end) h in
          let t0 : nearest (the_line (curve m c)) (point_of m (the (edge m e).start)) ≡ nearest (the_line (curve n c)) (point_of n (the (edge n e).start))
          = ap₂ (λ (f : Found) (q : Point3). nearest (the_line f) q) curve-same (point-same (edge m e).start start-met p.0) ∙ ap (λ (d : Edge). nearest (the_line (curve n c)) (point_of n (the d.start))) edge_same in
          let t1 : nearest (the_line (curve m c)) (point_of m (the (edge m e).end)) ≡ nearest (the_line (curve n c)) (point_of n (the (edge n e).end))
          = ap₂ (λ (f : Found) (q : Point3). nearest (the_line f) q) curve-same (point-same (edge m e).end stop-met p.1) ∙ ap (λ (d : Edge). nearest (the_line (curve n c)) (point_of n (the d.end))) edge_same in
          joined-alike _ _ (run 1 k) (λ i _. sample-same _ ∙ ap₂ (λ (t u : Float). sample_test n e c s (sample_at t u k i)) t0 t1))
          (λ _. refl)

      pub ring-same : other_ring m e c s ≡ other_ring n e c s
      ring-same = rw (edge_same, curve-same, surface-same)

    -- the edge on its curve and a surface, where there are both
    carried_same : (k : ℕ) (o p : Option ℕ) → ((c : ℕ) → member c (listed o) ≡ true → member c (curves_met m b) ≡ true)
        → ((s : ℕ) → member s (listed p) ≡ true → member s (surfaces_met m b) ≡ true) → carried m k e o p ≡ carried n k e o p
    unfolding carried
    carried_same k none p h g = refl
    carried_same k (some c) none h g = refl
    carried_same k (some c) (some s) h g =
        let cm = h c (member-head c []) in
        let sm = g s (member-head s []) in
        let ends = joined-alike (end_tests m e c s) (end_tests n e c s) (edge_vertices (edge m e)) (λ v q. end_same c s cm sm v (Walked.vertex-in m b e met there v q)) ∙ ap (λ (d : Edge). joined (end_tests n e c s) (edge_vertices d)) edge_same in
        ap₂ ◌++◌ (ap₂ ◌++◌ ends (samples-same c s cm sm k)) (ap (λ t. only_if t skipped) (ring-same c s cm sm))

  -- ---- a fin that is met, and its edge

  pub readable-same : (i : ℕ) → member i (fins_met m b) ≡ true → readable_fin m i ≡ readable_fin n i
  readable-same i met =
      and_same (has m.fins i) (has n.fins i) _ _ (a.fins.there i (Walked.fin-seen m b i met))
      (λ h. a.edges.there (fin m i).edge (Walked.edge_in m b i met h) ∙ ap (λ (d : Fin). has n.edges d.edge) (a.fins.same i (Walked.fin-seen m b i met) h))

  module _ (i : ℕ) (met : member i (fins_met m b) ≡ true) (readable : readable_fin m i ≡ true) where
    pub fin-there : (has m.fins i ≡ true) × (has m.edges (fin m i).edge ≡ true)
    fin-there = and_both (has m.fins i) (has m.edges (fin m i).edge) readable

    pub fin-same : fin m i ≡ fin n i
    fin-same = a.fins.same i (Walked.fin-seen m b i met) fin-there.0

    pub its-edge : edge m (fin m i).edge ≡ edge n (fin m i).edge
    its-edge = a.edges.same (fin m i).edge (Walked.edge_in m b i met fin-there.0) fin-there.1

    ends_same : ends_of m i ≡ ends_of n i
    ends_same = ap (directed (fin m i).sense) its-edge ∙ ap (λ (d : Fin). directed d.sense (edge n d.edge)) fin-same

  geometry-same : (k f i : ℕ) → member f (faces_met m b) ≡ true → has m.faces f ≡ true → member i (fins_met m b) ≡ true → fin_geometry m k f i ≡ fin_geometry n k f i
  unfolding fin_geometry
  geometry-same k f i f-met f-there met =
      cond_same (readable_fin m i) (readable_fin n i) _ _ [] [] (readable-same i met)
      (λ h. let e-met = Walked.edge_in m b i met (fin-there i met h).0 in
      let e-there = (fin-there i met h).1 in
      carried_same (fin m i).edge e-met e-there k (edge m (fin m i).edge).curve (face m f).surface (Walked.curve-in m b (fin m i).edge e-met e-there) (Walked.surface-in m b f f-met f-there)
      ∙ ap (λ (d : Edge). carried n k (fin m i).edge d.curve (face m f).surface) (its-edge i met h)
      ∙ ap (λ (d : Fin). carried n k d.edge (edge n d.edge).curve (face m f).surface) (fin-same i met h)
      ∙ ap (λ (d : Face). carried n k (fin n i).edge (edge n (fin n i).edge).curve d.surface) (a.faces.same f f-met f-there))
      (λ _. refl)

  fin-findings-same : (l i : ℕ) → member i (fins_met m b) ≡ true → fin_findings m l i ≡ fin_findings n l i
  unfolding fin_findings
  fin-findings-same l i met =
      cond_same (has m.fins i) (has n.fins i) _ _ _ _ (a.fins.there i (Walked.fin-seen m b i met))
      (λ h. let e-met = Walked.edge_in m b i met h in
      ap (λ (k : List Finding). only_if (not (eqb (fin m i).owner l)) (fault 14 i) ++ k)
      (cond_same (has m.edges (fin m i).edge) (has n.edges (fin m i).edge) _ _ _ _ (a.edges.there (fin m i).edge e-met)
      (λ g. ap (λ (k : List Finding). only_if (not (member i (edge m (fin m i).edge).fins)) (fault 16 (fin m i).edge) ++ k)
      (joined-alike _ (λ v. only_if (not (has n.vertices v)) (fault 17 (fin m i).edge)) (edge_vertices (edge m (fin m i).edge))
      (λ v q. ap (λ t. only_if (not t) (fault 17 (fin m i).edge)) (a.vertices.there v (Walked.vertex-in m b (fin m i).edge e-met g v q))))
      ∙ ap (λ (d : Edge). only_if (not (member i d.fins)) (fault 16 (fin m i).edge) ++ joined (λ v. only_if (not (has n.vertices v)) (fault 17 (fin m i).edge)) (edge_vertices d)) (a.edges.same (fin m i).edge e-met g))
      (λ _. refl))
      ∙ ap (λ (d : Fin). only_if (not (eqb d.owner l)) (fault 14 i)
      ++ cond (has n.edges d.edge)
      (only_if (not (member i (edge n d.edge).fins)) (fault 16 d.edge) ++ joined (λ v. only_if (not (has n.vertices v)) (fault 17 d.edge)) (edge_vertices (edge n d.edge)))
      (fault 15 i ∷ [])) (a.fins.same i (Walked.fin-seen m b i met) h))
      (λ _. refl)

  -- ---- the fins of a loop, each against the next

  open-same : (i next : ℕ) → member i (fins_met m b) ≡ true → member next (fins_met m b) ≡ true → open_at m i next ≡ open_at n i next
  open-same i next met next-met =
      ap (λ t. only_if t (fault 18 i))
      (and_same (readable_fin m i && readable_fin m next) (readable_fin n i && readable_fin n next) _ _ (ap₂ ◌&&◌ (readable-same i met) (readable-same next next-met))
      (λ h. let p = and_both (readable_fin m i) (readable_fin m next) h in
      ap₂ (λ (d g : Ends). not (same d.end g.start)) (ends_same i met p.0) (ends_same next next-met p.1)))

  opens-same : (k l : List ℕ) → ((i : ℕ) → member i k ≡ true → member i (fins_met m b) ≡ true) → ((i : ℕ) → member i l ≡ true → member i (fins_met m b) ≡ true) → opens m k l ≡ opens n k l
  unfolding opens
  opens-same [] l h g = refl
  opens-same (i ∷ k) [] h g = refl
  opens-same (i ∷ k) (next ∷ l) h g =
      ap₂ ◌++◌ (open-same i next (h i (member-head i k)) (g next (member-head next l))) (opens-same k l (λ j q. h j (member-tail j i k q)) (λ j q. g j (member-tail j next l q)))

  -- ---- loops, faces, shells, regions

  module _ (o : CheckOptions) where
    -- what is found of a loop that is there, by its record
    abbrev of_loop_of : Model → ℕ → ℕ → Loop → List Finding
    of_loop_of w f l d =
        only_if (not (eqb d.face f)) (fault 11 l)
        ++ cond (eqb (length d.fins) 0) (fault 12 l ∷ [])
        (joined (fin_findings w l) d.fins ++ open_findings w d.fins ++ cond o.geometry (joined (fin_geometry w o.edge_samples f) d.fins) [])

    loop-findings-same : (f l : ℕ) → member f (faces_met m b) ≡ true → has m.faces f ≡ true → member l (loops_met m b) ≡ true → loop_findings m o f l ≡ loop_findings n o f l
    unfolding loop_findings
    loop-findings-same f l f-met f-there met =
        cond_same (has m.loops l) (has n.loops l) _ _ _ _ (a.loops.there l met)
        (λ h. let fins : List ℕ = (loop m l).fins in
        let fin-met = Walked.fin-in m b l met h in
        let each = joined-alike (fin_findings m l) (fin_findings n l) fins (λ i q. fin-findings-same l i (fin-met i q)) in
        let open-ones = opens-same fins (rotated fins) fin-met (λ i q. fin-met i (rotated-from fins i q)) in
        let geometry = joined-alike (fin_geometry m o.edge_samples f) (fin_geometry n o.edge_samples f) fins (λ i q. geometry-same o.edge_samples f i f-met f-there (fin-met i q)) in
        ap (λ (k : List Finding). only_if (not (eqb (loop m l).face f)) (fault 11 l) ++ cond (eqb (length fins) 0) (fault 12 l ∷ []) k)
        (ap₂ ◌++◌ (ap₂ ◌++◌ each open-ones) (ap (λ (k : List Finding). cond o.geometry k []) geometry))
        ∙ ap (of_loop_of n f l) (a.loops.same l met h))
        (λ _. refl)

    abbrev of_face_of : Model → ℕ → ℕ → Face → List Finding
    of_face_of w s f d =
        only_if (not (is d.front s || is d.back s)) (fault 8 f)
        ++ cond (checked_from d.front s) (only_if (not (is_some d.surface)) (fault 9 f) ++ joined (loop_findings w o f) d.loops) []

    face-findings-same : (s f : ℕ) → member f (faces_met m b) ≡ true → face_findings m o s f ≡ face_findings n o s f
    unfolding face_findings
    face-findings-same s f met =
        cond_same (has m.faces f) (has n.faces f) _ _ _ _ (a.faces.there f met)
        (λ h. ap (λ (k : List Finding). only_if (not (is (face m f).front s || is (face m f).back s)) (fault 8 f)
        ++ cond (checked_from (face m f).front s) (only_if (not (is_some (face m f).surface)) (fault 9 f) ++ k) [])
        (joined-alike (loop_findings m o f) (loop_findings n o f) (face m f).loops (λ l q. loop-findings-same f l met h (Walked.loop-in m b f met h l q)))
        ∙ ap (of_face_of n s f) (a.faces.same f met h))
        (λ _. refl)

    shell-findings-same : (r s : ℕ) → member s (shells_met m b) ≡ true → shell_findings m o r s ≡ shell_findings n o r s
    unfolding shell_findings
    shell-findings-same r s met =
        cond_same (has m.shells s) (has n.shells s) _ _ _ _ (a.shells.there s met)
        (λ h. ap (λ (k : List Finding). only_if (not (eqb (shell m s).region r)) (fault 6 s) ++ k)
        (joined-alike (face_findings m o s) (face_findings n o s) (shell m s).faces (λ f q. face-findings-same s f (Walked.face-in m b s met h f q)))
        ∙ ap (λ (d : Shell). only_if (not (eqb d.region r)) (fault 6 s) ++ joined (face_findings n o s) d.faces) (a.shells.same s met h))
        (λ _. refl)

    region-findings-same : (r : ℕ) → member r (regions_met m b) ≡ true → region_findings m o b r ≡ region_findings n o b r
    unfolding region_findings
    region-findings-same r met =
        cond_same (has m.regions r) (has n.regions r) _ _ _ _ (a.regions.there r met)
        (λ h. ap (λ (k : List Finding). only_if (not (eqb (region m r).body b)) (fault 4 r) ++ k)
        (joined-alike (shell_findings m o r) (shell_findings n o r) (region m r).shells (λ s q. shell-findings-same r s (Walked.shell-in m b r met h s q)))
        ∙ ap (λ (d : Region). only_if (not (eqb d.body b)) (fault 4 r) ++ joined (shell_findings n o r) d.shells) (a.regions.same r met h))
        (λ _. refl)

    layout-same : (l : List ℕ) → ((r : ℕ) → member r l ≡ true → member r (regions_met m b) ≡ true) → layout m b l ≡ layout n b l
    layout-same [] h = refl
    layout-same (r ∷ l) h =
        let met = h r (member-head r l) in
        ap (λ t. only_if t (fault 2 b)) (and_same (has m.regions r) (has n.regions r) _ _ (a.regions.there r met) (λ g. ap (λ (d : Region). d.solid) (a.regions.same r met g)))

    -- ---- the manifold edges

    manifold-same : (e : ℕ) (l : List ℕ) → ((i : ℕ) → member i l ≡ true → member i (fins_seen m b) ≡ true) → manifold m e l ≡ manifold n e l
    unfolding manifold
    manifold-same e [] h = refl
    manifold-same e (i ∷ []) h = refl
    manifold-same e (i ∷ j ∷ []) h =
        let p = h i (member-head i (j ∷ [])) in
        let q = h j (member-tail j i (j ∷ []) (member-head j [])) in
        ap (λ t. only_if t (fault 20 e))
        (and_same (has m.fins i && has m.fins j) (has n.fins i && has n.fins j) _ _ (ap₂ ◌&&◌ (a.fins.there i p) (a.fins.there j q))
        (λ g. let t = and_both (has m.fins i) (has m.fins j) g in
        ap₂ (λ (c d : Fin). same_sense c.sense d.sense) (a.fins.same i p t.0) (a.fins.same j q t.1)))
    manifold-same e (i ∷ j ∷ k ∷ l) h = refl

    manifold-edge-same : (e : ℕ) → member e (edges_met m b) ≡ true → manifold_edge m e ≡ manifold_edge n e
    unfolding manifold_edge
    manifold-edge-same e met =
        cond_same (has m.edges e) (has n.edges e) _ _ [] [] (a.edges.there e met)
        (λ h. manifold-same e (edge m e).fins (Walked.listed-seen m b e met h) ∙ ap (λ (d : Edge). manifold n e d.fins) (a.edges.same e met h))
        (λ _. refl)

    module _ (there : has m.bodies b ≡ true) where
      manifold-edges-same : manifold_edges m b ≡ manifold_edges n b
      unfolding manifold_edges
      manifold-edges-same =
          cond_same (is_solid (body m b).kind && eqb (edges_refusal m b) 0) (is_solid (body n b).kind && eqb (edges_refusal n b) 0) _ _ [] []
          (ap₂ ◌&&◌ (ap (λ (d : Body). is_solid d.kind) (Walked.body_same m n b a there)) (ap (λ k. eqb k 0) (Walked.edges-refused m n b a)))
          (λ h. let z = eqb-true (edges_refusal m b) 0 (and_both (is_solid (body m b).kind) (eqb (edges_refusal m b) 0) h).1 in
          joined-alike (manifold_edge m) (manifold_edge n) (edge_walk m b) (λ e q. manifold-edge-same e (Walked.edge-met m n b a z e q))
          ∙ ap (joined (manifold_edge n)) (Walked.edge-walk-same m n b a z))
          (λ _. refl)

      pub findings-same : findings m o b ≡ findings n o b
      unfolding findings
      findings-same =
          let met = Walked.region-in m b there in
          let first = layout-same (body m b).regions met in
          let each = joined-alike (region_findings m o b) (region_findings n o b) (body m b).regions (λ r q. region-findings-same r (met r q)) in
          ap₂ ◌++◌ (ap₂ ◌++◌ first each ∙ ap (λ (d : Body). layout n b d.regions ++ joined (region_findings n o b) d.regions) (Walked.body_same m n b a there)) manifold-edges-same

    pub check-refused : check_refusal m o b ≡ check_refusal n o b
    unfolding check_refusal
    check-refused = ap (λ t. 1 unless leb o.edge_samples 255 then 2 unless t) (Walked.body-there m n b a)

    pub check-there : check_refusal m o b ≡ 0 → has m.bodies b ≡ true
    unfolding check_refusal
    check-there z = unless-zero 1 (has m.bodies b) (then-zero (1 unless leb o.edge_samples 255) (2 unless has m.bodies b) z).1

    pub report-same : check_body m o b ≡ check_body n o b
    report-same = answered-same (check_refusal m o b) (check_refusal n o b) _ _ check-refused (λ z. ap report_of (findings-same (check-there z)))

  -- ---- fit to saw: where the report has no fault, all that the walk of faces meets is there

  -- a shell that is none of the body's is not looked at
  own_same : faces_refusal m b ≡ 0 → (f s : ℕ) → own_shell m b f s ≡ own_shell n b f s
  own_same z f s = by (member s (shells_of m b)) refl
    where
      shut : (c d t : Bool) → t ≡ false → ((c && t) && d) ≡ false
      shut true d t e = rw e
      shut false d t e = refl

      by : (t : Bool) → member s (shells_of m b) ≡ t → own_shell m b f s ≡ own_shell n b f s
      by true g =
          let p = Walked.shell-there m n b a z s g in
          ap₂ ◌&&◌ (ap₂ ◌&&◌ (a.shells.there s p.0) (ap (member s) (Walked.shells-same m n b a z))) (ap (λ (d : Shell). member f d.faces) (a.shells.same s p.0 p.1))
      by false g =
          shut (has m.shells s) (member f (shell m s).faces) (member s (shells_of m b)) g
          ∙ sym (shut (has n.shells s) (member f (shell n s).faces) (member s (shells_of n b)) (sym (ap (member s) (Walked.shells-same m n b a z)) ∙ g))

  module _ (there : has m.bodies b ≡ true) (quiet : NoFault (findings m sawing b)) where
    faces-walked : faces_refusal m b ≡ 0
    unfolding faces_refusal
    faces-walked = rw (there, regions-followed m sawing b quiet)

    face-same : (f : ℕ) → member f (face_walk m b) ≡ true → face m f ≡ face n f
    unfolding face_walk
    face-same f g =
        let faces : List ℕ = joined (λ s. (shell m s).faces) (shells_of m b) in
        a.faces.same f (Walked.face-met m n b a faces-walked f g) (all-member (has m.faces) faces f (faces-exist m sawing b quiet) (sym (member-firsts f faces) ∙ g))

    solid-face-same : solid_face m b ≡ solid_face n b
    unfolding solid_face
    solid-face-same =
        any-alike (λ r. (region m r).solid && any (has_face m) (region m r).shells) (λ r. (region n r).solid && any (has_face n) (region n r).shells) (body m b).regions
        (λ r g. let t = Walked.region-there m n b a faces-walked r g in
        ap (λ c. (region m r).solid && c)
        (any-alike (has_face m) (has_face n) (region m r).shells
        (λ s q. ap (λ (d : Shell). not (eqb (length d.faces) 0)) (Walked.shell-same m n b a faces-walked s (joined_in (λ r. (region m r).shells) (body m b).regions r s g q))))
        ∙ ap (λ (d : Region). d.solid && any (has_face n) d.shells) (a.regions.same r t.0 t.1))
        ∙ ap (λ (d : Body). any (λ r. (region n r).solid && any (has_face n) (region n r).shells) d.regions) (Walked.body_same m n b a there)

    owned-same : (f : ℕ) → member f (face_walk m b) ≡ true → own_shells m b f ≡ own_shells n b f
    unfolding own_shells
    owned-same f g =
        all_alike (own_shell m b f) (own_shell n b f) (listed (face m f).front ++ listed (face m f).back) (λ s _. own_same faces-walked f s)
        ∙ ap (λ (d : Face). all (own_shell n b f) (listed d.front ++ listed d.back)) (face-same f g)

    whole_same : whole_solid m b ≡ whole_solid n b
    unfolding whole_solid
    whole_same =
        ap₂ ◌&&◌ (ap₂ ◌&&◌ (ap (λ (d : Body). is_solid d.kind) (Walked.body_same m n b a there)) solid-face-same)
        (all_alike (own_shells m b) (own_shells n b) (face_walk m b) owned-same ∙ ap (all (own_shells n b)) (Walked.face-walk-same m n b a faces-walked))

  sawable-same : has m.bodies b ≡ true → sawable m b ≡ sawable n b
  unfolding sawable report_of
  sawable-same there =
      and_same (is_valid (report_of (findings m sawing b))) (is_valid (report_of (findings n sawing b))) _ _ (ap (λ (l : List Finding). is_valid (report_of l)) (findings-same sawing there))
      (λ v. whole_same there (eqb-true (length (faults_of (findings m sawing b))) 0 (and_both (eqb (length (faults_of (findings m sawing b))) 0) _ v).0))

  pub fit_same : fit_to_saw m b ≡ fit_to_saw n b
  fit_same = answered-same (check_refusal m sawing b) (check_refusal n sawing b) _ _ (check-refused sawing) (λ z. sawable-same (check-there sawing z))
