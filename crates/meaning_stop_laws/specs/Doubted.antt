-- The doubts of a report in two models that are alike from the body on. Assumes nothing.
use Rattle.std.specs.Prelude.{ℕ, ◌≡◌, true, Float}
use Rattle.std.proofs.Math.Path.{refl, ap, ap₂}
use Rattle.std.proofs.Common.{◌∙◌}
use Rattle.std.proofs.Math.Bool.{cond, ◌&&◌}
use mathlib.Core.List.{List, [], ◌∷◌, ◌++◌}
use Rattle.std.proofs.Math.Option.{Option, none, some}
use Rattle.float_vectors.specs.declared.vector.Point3.{Point3}
use Rattle.geom_lines_planes.specs.declared.tolerance.Version.{Version}
use Rattle.geom_lines_planes.specs.Geometry.{nearest, line_point, effective}
use Rattle.geom_carriers.specs.Found.{Found}
use Rattle.geom_carriers.specs.Queries.{the_line}
use Rattle.geom_queries.specs.Queries.{project_refusal, distance_refusal}
use Rattle.geom_signs.specs.Signs.{off_curve_s}
use Rattle.meaning.specs.Lists.{run, member, joined, listed, the}
use Rattle.meaning.specs.Model.{Model, Body, Region, Shell, Face, Loop, Fin, Edge, Vertex, has, body, region, shell, face, loop, fin, edge, vertex, point_of, curve, surface}
use Rattle.meaning.specs.Walks.{edge_vertices, readable_fin}
use Rattle.meaning.specs.Faults.{about, of_fin, of_edge, of_vertex, projected, sample_at, checked_from, CheckOptions, check_refusal}
use Rattle.meaning_list_laws.specs.Tests.{and_both}
use Rattle.meaning_list_laws.specs.Lists.{member-head}
use Rattle.meaning_isolation.specs.Reached.{regions_met, shells_met, faces_met, loops_met, fins_met, edges_met, vertices_met, curves_met, surfaces_met, Alike}
use Rattle.meaning_isolation.specs.Laws.{and_same, cond_same, answered-same, joined-alike}
use Rattle.meaning_isolation.proofs.Walked as Walked
use Rattle.meaning_isolation.proofs.Reported as Reported
use Rattle.meaning_doubts.specs.Doubts.{Doubt, doubt, on_curve, on_surface, off_curve, ring, queried, unresolved, curve_doubts, end_doubts, sample_doubt, sample_doubts, carried_doubts, fin_doubts, loop_doubts, face_doubts, shell_doubts, region_doubts, doubts, body_doubts}

-- the curve test of the vertex v, by what it reads
abbrev tested : Version → Float → Found → Vertex → Edge → ℕ → ℕ → ℕ → List Doubt
tested r p f w d i e v =
    queried (project_refusal f w.point) (doubt on_curve (about of_edge e) i)
    (unresolved (off_curve_s w.point (line_point (the_line f) (nearest (the_line f) w.point)) (effective r w.tolerance p) (effective r d.tolerance p)) (doubt off_curve (about of_vertex v) i))

module _ (m n : Model) (b : ℕ) (a : Alike m n b) where
  -- ---- the geometry of the fin i, whose edge e is there

  module _ (i e : ℕ) (met : member e (edges_met m b) ≡ true) (there : has m.edges e ≡ true) where
    edge_same : edge m e ≡ edge n e
    edge_same = Reported.edge_same m n b a e met there

    module _ (c s : ℕ) (c_met : member c (curves_met m b) ≡ true) (s-met : member s (surfaces_met m b) ≡ true) where
      curve-same : curve m c ≡ curve n c
      curve-same = Reported.curve-same m n b a e met there c s c_met s-met

      surface-same : surface m s ≡ surface n s
      surface-same = Reported.surface-same m n b a e met there c s c_met s-met

      tested-same : (v : ℕ) → vertex m v ≡ vertex n v → curve_doubts m i e c v ≡ curve_doubts n i e c v
      unfolding curve_doubts
      tested-same v w =
          ap (λ (r : Version). tested r m.precision (curve m c) (vertex m v) (edge m e) i e v) a.version
          ∙ ap (λ (p : Float). tested n.version p (curve m c) (vertex m v) (edge m e) i e v) a.precision
          ∙ ap (λ (f : Found). tested n.version n.precision f (vertex m v) (edge m e) i e v) curve-same
          ∙ ap₂ (λ (d : Vertex) (k : Edge). tested n.version n.precision (curve n c) d k i e v) w edge_same

      end_same : (v : ℕ) → member v (vertices_met m b) ≡ true → end_doubts m i e c s v ≡ end_doubts n i e c s v
      unfolding end_doubts
      end_same v v-met =
          cond_same (has m.vertices v) (has n.vertices v) _ _ [] [] (a.vertices.there v v-met)
          (λ h. let w : vertex m v ≡ vertex n v = a.vertices.same v v-met h in
          ap₂ ◌++◌ (tested-same v w) (ap₂ (λ (f : Found) (d : Vertex). queried (distance_refusal f d.point) (doubt on_surface (about of_vertex v) i) []) surface-same w))
          (λ _. refl)

      sample-same : (k : ℕ) (t : Float) → sample_doubt m i e c s k t ≡ sample_doubt n i e c s k t
      unfolding sample_doubt
      sample-same k t = rw (curve-same, surface-same)

      samples-same : (k : ℕ) → sample_doubts m k i e c s ≡ sample_doubts n k i e c s
      unfolding sample_doubts
      samples-same k =
          let start-met = Reported.start-met m n b a e met there c s c_met s-met in
          let stop-met = Reported.stop-met m n b a e met there c s c_met s-met in
          let projected-same = Reported.projected-same m n b a e met there c s c_met s-met in
          let point-same = Reported.point-same m n b a e met there c s c_met s-met in
          cond_same (projected m c (edge m e).start && projected m c (edge m e).end) (projected n c (edge n e).start && projected n c (edge n e).end) _ _ [] []
          (ap₂ ◌&&◌ (projected-same (edge m e).start start-met ∙ ap (λ (d : Edge). projected n c d.start) edge_same) (projected-same (edge m e).end stop-met ∙ ap (λ (d : Edge). projected n c d.end) edge_same))
          (λ h. let p = and_both (projected m c (edge m e).start) (projected m c (edge m e).end) h in
          let t0 : nearest (the_line (curve m c)) (point_of m (the (edge m e).start)) ≡ nearest (the_line (curve n c)) (point_of n (the (edge n e).start))
          = ap₂ (λ (f : Found) (q : Point3). nearest (the_line f) q) curve-same (point-same (edge m e).start start-met p.0) ∙ ap (λ (d : Edge). nearest (the_line (curve n c)) (point_of n (the d.start))) edge_same in
          let t1 : nearest (the_line (curve m c)) (point_of m (the (edge m e).end)) ≡ nearest (the_line (curve n c)) (point_of n (the (edge n e).end))
          = ap₂ (λ (f : Found) (q : Point3). nearest (the_line f) q) curve-same (point-same (edge m e).end stop-met p.1) ∙ ap (λ (d : Edge). nearest (the_line (curve n c)) (point_of n (the d.end))) edge_same in
          joined-alike _ _ (run 1 k) (λ j _. sample-same j _ ∙ ap₂ (λ (t u : Float). sample_doubt n i e c s j (sample_at t u k j)) t0 t1))
          (λ _. refl)

    carried_same : (k : ℕ) (o p : Option ℕ) → ((c : ℕ) → member c (listed o) ≡ true → member c (curves_met m b) ≡ true)
        → ((s : ℕ) → member s (listed p) ≡ true → member s (surfaces_met m b) ≡ true) → carried_doubts m k i e o p ≡ carried_doubts n k i e o p
    unfolding carried_doubts
    carried_same k none p h g = refl
    carried_same k (some c) none h g = refl
    carried_same k (some c) (some s) h g =
        let cm = h c (member-head c []) in
        let sm = g s (member-head s []) in
        let ends = joined-alike (end_doubts m i e c s) (end_doubts n i e c s) (edge_vertices (edge m e)) (λ v q. end_same c s cm sm v (Walked.vertex-in m b e met there v q)) ∙ ap (λ (d : Edge). joined (end_doubts n i e c s) (edge_vertices d)) edge_same in
        ap₂ ◌++◌ (ap₂ ◌++◌ ends (samples-same c s cm sm k)) (ap (λ t. cond t (doubt ring (about of_fin i) i ∷ []) []) (Reported.ring-same m n b a e met there c s cm sm))

  fin-doubts : (k f i : ℕ) → member f (faces_met m b) ≡ true → has m.faces f ≡ true → member i (fins_met m b) ≡ true → fin_doubts m k f i ≡ fin_doubts n k f i
  unfolding fin_doubts
  fin-doubts k f i f-met f-there met =
      cond_same (readable_fin m i) (readable_fin n i) _ _ [] [] (Reported.readable-same m n b a i met)
      (λ h. let t = Reported.fin-there m n b a i met h in
      let e-met = Walked.edge_in m b i met t.0 in
      carried_same i (fin m i).edge e-met t.1 k (edge m (fin m i).edge).curve (face m f).surface (Walked.curve-in m b (fin m i).edge e-met t.1) (Walked.surface-in m b f f-met f-there)
      ∙ ap (λ (d : Edge). carried_doubts n k i (fin m i).edge d.curve (face m f).surface) (Reported.its-edge m n b a i met h)
      ∙ ap₂ (λ (d : Fin) (g : Face). carried_doubts n k i d.edge (edge n d.edge).curve g.surface) (Reported.fin-same m n b a i met h) (a.faces.same f f-met f-there))
      (λ _. refl)

  -- ---- loops, faces, shells, regions

  loop-doubts : (k f l : ℕ) → member f (faces_met m b) ≡ true → has m.faces f ≡ true → member l (loops_met m b) ≡ true → loop_doubts m k f l ≡ loop_doubts n k f l
  unfolding loop_doubts
  loop-doubts k f l f-met f-there met =
      cond_same (has m.loops l) (has n.loops l) _ _ [] [] (a.loops.there l met)
      (λ h. joined-alike (fin_doubts m k f) (fin_doubts n k f) (loop m l).fins (λ i q. fin-doubts k f i f-met f-there (Walked.fin-in m b l met h i q))
      ∙ ap (λ (d : Loop). joined (fin_doubts n k f) d.fins) (a.loops.same l met h))
      (λ _. refl)

  face-doubts : (k s f : ℕ) → member f (faces_met m b) ≡ true → face_doubts m k s f ≡ face_doubts n k s f
  unfolding face_doubts
  face-doubts k s f met =
      cond_same (has m.faces f && checked_from (face m f).front s) (has n.faces f && checked_from (face n f).front s) _ _ [] []
      (and_same (has m.faces f) (has n.faces f) _ _ (a.faces.there f met) (λ h. ap (λ (d : Face). checked_from d.front s) (a.faces.same f met h)))
      (λ q. let h = (and_both (has m.faces f) (checked_from (face m f).front s) q).0 in
      joined-alike (loop_doubts m k f) (loop_doubts n k f) (face m f).loops (λ l g. loop-doubts k f l met h (Walked.loop-in m b f met h l g))
      ∙ ap (λ (d : Face). joined (loop_doubts n k f) d.loops) (a.faces.same f met h))
      (λ _. refl)

  shell-doubts : (k s : ℕ) → member s (shells_met m b) ≡ true → shell_doubts m k s ≡ shell_doubts n k s
  unfolding shell_doubts
  shell-doubts k s met =
      cond_same (has m.shells s) (has n.shells s) _ _ [] [] (a.shells.there s met)
      (λ h. joined-alike (face_doubts m k s) (face_doubts n k s) (shell m s).faces (λ f q. face-doubts k s f (Walked.face-in m b s met h f q))
      ∙ ap (λ (d : Shell). joined (face_doubts n k s) d.faces) (a.shells.same s met h))
      (λ _. refl)

  region-doubts : (k r : ℕ) → member r (regions_met m b) ≡ true → region_doubts m k r ≡ region_doubts n k r
  unfolding region_doubts
  region-doubts k r met =
      cond_same (has m.regions r) (has n.regions r) _ _ [] [] (a.regions.there r met)
      (λ h. joined-alike (shell_doubts m k) (shell_doubts n k) (region m r).shells (λ s q. shell-doubts k s (Walked.shell-in m b r met h s q))
      ∙ ap (λ (d : Region). joined (shell_doubts n k) d.shells) (a.regions.same r met h))
      (λ _. refl)

  pub doubts-same : (o : CheckOptions) → has m.bodies b ≡ true → doubts m o b ≡ doubts n o b
  unfolding doubts
  doubts-same o there =
      ap (λ (l : List Doubt). cond o.geometry l [])
      (joined-alike (region_doubts m o.edge_samples) (region_doubts n o.edge_samples) (body m b).regions (λ r q. region-doubts o.edge_samples r (Walked.region-in m b there r q))
      ∙ ap (λ (d : Body). joined (region_doubts n o.edge_samples) d.regions) (Walked.body_same m n b a there))

  pub answers-same : (o : CheckOptions) → body_doubts m o b ≡ body_doubts n o b
  answers-same o = answered-same (check_refusal m o b) (check_refusal n o b) _ _ (Reported.check-refused m n b a o) (λ z. doubts-same o (Reported.check-there m n b a o z))
