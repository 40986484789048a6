-- The walks of a body in two models that are alike from it on: the same refusals, and the same ids, all of them met. They rest on those of specs/Walked.antt, which are passed on. Assumes nothing.
use Prim.Native.Nat.{ℕ}
use Rattle.std.specs.Prelude.{◌≡◌, true}
use Rattle.std.proofs.Common.{sym, ◌∙◌}
use Rattle.std.proofs.Math.Path.{ap, subst}
use Rattle.std.proofs.Math.Logic.{inl, inr}
use mathlib.Core.List.{[], List, ◌++◌, map}
use Rattle.geom_lines_planes.specs.Refuse.{◌unless◌}
use Rattle.meaning.specs.Lists.{all, joined, member, firsts}
use Rattle.meaning.specs.Model.{Model, Body, Region, Shell, Face, Loop, Fin, has, body, region, shell, face, loop, fin, edge}
use Rattle.meaning.specs.Walks.{shells_of, face_walk, region_followed, faces_refusal, body_faces, face_edges, edge_walk, loop_followed, face_followed, edges_refusal, body_edges, edge_vertices, vertex_walk, vertices_refusal, body_vertices}
use Rattle.meaning_list_laws.specs.Tests.{and_both, then-zero, unless-zero}
use Rattle.meaning_list_laws.specs.Lists.{member-firsts, member-head, all-member}
use Rattle.meaning_isolation.specs.Reached.{regions_met, shells_met, faces_met, loops_met, fins_met, edges_met, vertices_met, Alike}
use Rattle.meaning_isolation.specs.Laws.{and_same, then_same, answered-same, append-from, map-from, joined-from, all_alike, joined-alike, map-alike}
pub use Rattle.meaning_isolation.specs.Walked.{region-in, shell-in, face-in, wire-in, acorn-in, loop-in, surface-in, fin-in, fin-seen, edge_in, vertex-in, curve-in, listed-seen}

-- ---- the walks

module _ (m n : Model) (b : ℕ) (a : Alike m n b) where
  pub body_same : has m.bodies b ≡ true → body m b ≡ body n b
  body_same h = a.bodies.same b (member-head b []) h

  pub body-there : has m.bodies b ≡ has n.bodies b
  body-there = a.bodies.there b (member-head b [])

  region-followed : (r : ℕ) → member r (regions_met m b) ≡ true → region_followed m r ≡ region_followed n r
  region-followed r g =
      and_same (has m.regions r) (has n.regions r) _ _ (a.regions.there r g)
      (λ h. all_alike (has m.shells) (has n.shells) (region m r).shells (λ s q. a.shells.there s (shell-in m b r g h s q))
      ∙ ap (λ (d : Region). all (has n.shells) d.shells) (a.regions.same r g h))

  pub faces-refused : faces_refusal m b ≡ faces_refusal n b
  unfolding faces_refusal
  faces-refused =
      ap (λ t. 2 unless t)
      (and_same (has m.bodies b) (has n.bodies b) _ _ body-there
      (λ h. all_alike (region_followed m) (region_followed n) (body m b).regions (λ r g. region-followed r (region-in m b h r g))
      ∙ ap (λ (d : Body). all (region_followed n) d.regions) (body_same h)))

  -- where the faces can be walked
  module _ (z : faces_refusal m b ≡ 0) where
    pub followed : (has m.bodies b ≡ true) × (all (region_followed m) (body m b).regions ≡ true)
    unfolding faces_refusal
    followed = and_both (has m.bodies b) (all (region_followed m) (body m b).regions) (unless-zero 1 _ z)

    pub region-there : (r : ℕ) → member r (body m b).regions ≡ true → (member r (regions_met m b) ≡ true) × (has m.regions r ≡ true) × (all (has m.shells) (region m r).shells ≡ true)
    region-there r g =
        let t = and_both (has m.regions r) (all (has m.shells) (region m r).shells) (all-member (region_followed m) (body m b).regions r followed.1 g) in
        (region-in m b followed.0 r g, t.0, t.1)

    pub shells-same : shells_of m b ≡ shells_of n b
    shells-same =
        joined-alike (λ r. (region m r).shells) (λ r. (region n r).shells) (body m b).regions
        (λ r g. let t = region-there r g in ap (λ (d : Region). d.shells) (a.regions.same r t.0 t.1))
        ∙ ap (λ (d : Body). joined (λ r. (region n r).shells) d.regions) (body_same followed.0)

    pub shell-there : (s : ℕ) → member s (shells_of m b) ≡ true → (member s (shells_met m b) ≡ true) × (has m.shells s ≡ true)
    shell-there s g =
        let p = joined-from (λ r. (region m r).shells) (body m b).regions s g in
        let t = region-there p.0 p.1 in
        (shell-in m b p.0 t.0 t.1 s p.2, all-member (has m.shells) (region m p.0).shells s t.2 p.2)

    pub shell-same : (s : ℕ) → member s (shells_of m b) ≡ true → shell m s ≡ shell n s
    shell-same s g = let t = shell-there s g in a.shells.same s t.0 t.1

    pub face-walk-same : face_walk m b ≡ face_walk n b
    unfolding face_walk
    face-walk-same =
        ap firsts
        (joined-alike (λ s. (shell m s).faces) (λ s. (shell n s).faces) (shells_of m b) (λ s g. ap (λ (d : Shell). d.faces) (shell-same s g))
        ∙ ap (joined (λ s. (shell n s).faces)) shells-same)

    pub face-met : (f : ℕ) → member f (face_walk m b) ≡ true → member f (faces_met m b) ≡ true
    unfolding face_walk
    face-met f g =
        let p = joined-from (λ s. (shell m s).faces) (shells_of m b) f (sym (member-firsts f (joined (λ s. (shell m s).faces) (shells_of m b))) ∙ g) in
        let t = shell-there p.0 p.1 in
        face-in m b p.0 t.0 t.1 f p.2

  pub faces-same : body_faces m b ≡ body_faces n b
  faces-same = answered-same (faces_refusal m b) (faces_refusal n b) (face_walk m b) (face_walk n b) faces-refused face-walk-same

  loop-followed : (l : ℕ) → member l (loops_met m b) ≡ true → loop_followed m l ≡ loop_followed n l
  loop-followed l g =
      and_same (has m.loops l) (has n.loops l) _ _ (a.loops.there l g)
      (λ h. all_alike (has m.fins) (has n.fins) (loop m l).fins (λ i q. a.fins.there i (fin-seen m b i (fin-in m b l g h i q)))
      ∙ ap (λ (d : Loop). all (has n.fins) d.fins) (a.loops.same l g h))

  face-followed : (f : ℕ) → member f (faces_met m b) ≡ true → face_followed m f ≡ face_followed n f
  face-followed f g =
      and_same (has m.faces f) (has n.faces f) _ _ (a.faces.there f g)
      (λ h. all_alike (loop_followed m) (loop_followed n) (face m f).loops (λ l q. loop-followed l (loop-in m b f g h l q))
      ∙ ap (λ (d : Face). all (loop_followed n) d.loops) (a.faces.same f g h))

  pub edges-refused : edges_refusal m b ≡ edges_refusal n b
  unfolding edges_refusal
  edges-refused =
      then_same (faces_refusal m b) (faces_refusal n b) _ _ faces-refused
      (λ z. ap (λ t. 2 unless t)
      (all_alike (face_followed m) (face_followed n) (face_walk m b) (λ f g. face-followed f (face-met z f g)) ∙ ap (all (face_followed n)) (face-walk-same z)))

  -- where the edges can be walked
  module _ (z : edges_refusal m b ≡ 0) where
    pub walked : (faces_refusal m b ≡ 0) × (all (face_followed m) (face_walk m b) ≡ true)
    unfolding edges_refusal
    walked = let p = then-zero (faces_refusal m b) (2 unless all (face_followed m) (face_walk m b)) z in (p.0, unless-zero 1 _ p.1)

    -- a face that is walked, a loop of it and a fin of that
    pub face-there : (f : ℕ) → member f (face_walk m b) ≡ true → (member f (faces_met m b) ≡ true) × (has m.faces f ≡ true) × (all (loop_followed m) (face m f).loops ≡ true)
    face-there f g =
        let t = and_both (has m.faces f) (all (loop_followed m) (face m f).loops) (all-member (face_followed m) (face_walk m b) f walked.1 g) in
        (face-met walked.0 f g, t.0, t.1)

    module _ (f : ℕ) (g : member f (face_walk m b) ≡ true) where
      pub face-same : face m f ≡ face n f
      face-same = let t = face-there f g in a.faces.same f t.0 t.1

      pub loop-there : (l : ℕ) → member l (face m f).loops ≡ true → (member l (loops_met m b) ≡ true) × (has m.loops l ≡ true) × (all (has m.fins) (loop m l).fins ≡ true)
      loop-there l q =
          let t = face-there f g in
          let u = and_both (has m.loops l) (all (has m.fins) (loop m l).fins) (all-member (loop_followed m) (face m f).loops l t.2 q) in
          (loop-in m b f t.0 t.1 l q, u.0, u.1)

      pub loop-same : (l : ℕ) → member l (face m f).loops ≡ true → loop m l ≡ loop n l
      loop-same l q = let t = loop-there l q in a.loops.same l t.0 t.1

      pub fin-there : (l i : ℕ) → member l (face m f).loops ≡ true → member i (loop m l).fins ≡ true → (member i (fins_met m b) ≡ true) × (has m.fins i ≡ true)
      fin-there l i q p = let t = loop-there l q in (fin-in m b l t.0 t.1 i p, all-member (has m.fins) (loop m l).fins i t.2 p)

      pub fin-same : (l i : ℕ) → member l (face m f).loops ≡ true → member i (loop m l).fins ≡ true → fin m i ≡ fin n i
      fin-same l i q p = let t = fin-there l i q p in a.fins.same i (fin-seen m b i t.0) t.1

      loops-fins : joined (λ l. (loop m l).fins) (face m f).loops ≡ joined (λ l. (loop n l).fins) (face n f).loops
      loops-fins =
          joined-alike (λ l. (loop m l).fins) (λ l. (loop n l).fins) (face m f).loops (λ l q. ap (λ (d : Loop). d.fins) (loop-same l q))
          ∙ ap (λ (d : Face). joined (λ l. (loop n l).fins) d.loops) face-same

      pub face-edges-same : face_edges m f ≡ face_edges n f
      face-edges-same =
          map-alike (λ i. (fin m i).edge) (λ i. (fin n i).edge) (joined (λ l. (loop m l).fins) (face m f).loops)
          (λ i q. let p = joined-from (λ l. (loop m l).fins) (face m f).loops i q in ap (λ (d : Fin). d.edge) (fin-same p.0 i p.1 p.2))
          ∙ ap (map (λ i. (fin n i).edge)) loops-fins

    pub edge-walk-same : edge_walk m b ≡ edge_walk n b
    unfolding edge_walk
    edge-walk-same =
        let faces = joined-alike (face_edges m) (face_edges n) (face_walk m b) face-edges-same ∙ ap (joined (face_edges n)) (face-walk-same walked.0) in
        let wires =
        joined-alike (λ s. (shell m s).wire_edges) (λ s. (shell n s).wire_edges) (shells_of m b) (λ s g. ap (λ (d : Shell). d.wire_edges) (shell-same walked.0 s g))
        ∙ ap (joined (λ s. (shell n s).wire_edges)) (shells-same walked.0) in
        ap (λ (l : List ℕ). firsts (l ++ joined (λ s. (shell m s).wire_edges) (shells_of m b))) faces
        ∙ ap (λ (l : List ℕ). firsts (joined (face_edges n) (face_walk n b) ++ l)) wires

    pub edge-met : (e : ℕ) → member e (edge_walk m b) ≡ true → member e (edges_met m b) ≡ true
    unfolding edge_walk
    edge-met e g =
        let faces : List ℕ = joined (face_edges m) (face_walk m b) in
        let wires : List ℕ = joined (λ s. (shell m s).wire_edges) (shells_of m b) in
        elim (append-from e faces wires (sym (member-firsts e (faces ++ wires)) ∙ g)) [
          | inl q ↦
              let p = joined-from (face_edges m) (face_walk m b) e q in
              let o = map-from (λ i. (fin m i).edge) (joined (λ l. (loop m l).fins) (face m p.0).loops) e p.2 in
              let k = joined-from (λ l. (loop m l).fins) (face m p.0).loops o.0 o.1 in
              let t = fin-there p.0 p.1 k.0 o.0 k.1 k.2 in
              subst (λ (d : ℕ). member d (edges_met m b) ≡ true) o.2 (edge_in m b o.0 t.0 t.1)
          | inr q ↦
              let p = joined-from (λ s. (shell m s).wire_edges) (shells_of m b) e q in
              let t = shell-there walked.0 p.0 p.1 in
              wire-in m b p.0 t.0 t.1 e p.2
        ]

  pub edges-same : body_edges m b ≡ body_edges n b
  edges-same = answered-same (edges_refusal m b) (edges_refusal n b) (edge_walk m b) (edge_walk n b) edges-refused edge-walk-same

  pub vertices-refused : vertices_refusal m b ≡ vertices_refusal n b
  unfolding vertices_refusal
  vertices-refused =
      then_same (edges_refusal m b) (edges_refusal n b) _ _ edges-refused
      (λ z. ap (λ t. 2 unless t)
      (all_alike (has m.edges) (has n.edges) (edge_walk m b) (λ e g. a.edges.there e (edge-met z e g)) ∙ ap (all (has n.edges)) (edge-walk-same z)))

  -- where the vertices can be walked
  module _ (z : vertices_refusal m b ≡ 0) where
    pub reached : (edges_refusal m b ≡ 0) × (all (has m.edges) (edge_walk m b) ≡ true)
    unfolding vertices_refusal
    reached = let p = then-zero (edges_refusal m b) (2 unless all (has m.edges) (edge_walk m b)) z in (p.0, unless-zero 1 _ p.1)

    faces-walked : faces_refusal m b ≡ 0
    faces-walked = (walked reached.0).0

    pub edge-there : (e : ℕ) → member e (edge_walk m b) ≡ true → (member e (edges_met m b) ≡ true) × (has m.edges e ≡ true)
    edge-there e g = (edge-met reached.0 e g, all-member (has m.edges) (edge_walk m b) e reached.1 g)

    pub vertex-walk-same : vertex_walk m b ≡ vertex_walk n b
    unfolding vertex_walk
    vertex-walk-same =
        let ends =
        joined-alike (λ e. edge_vertices (edge m e)) (λ e. edge_vertices (edge n e)) (edge_walk m b)
        (λ e g. let t = edge-there e g in ap edge_vertices (a.edges.same e t.0 t.1))
        ∙ ap (joined (λ e. edge_vertices (edge n e))) (edge-walk-same reached.0) in
        let acorns =
        joined-alike (λ s. (shell m s).acorn_vertices) (λ s. (shell n s).acorn_vertices) (shells_of m b) (λ s g. ap (λ (d : Shell). d.acorn_vertices) (shell-same faces-walked s g))
        ∙ ap (joined (λ s. (shell n s).acorn_vertices)) (shells-same faces-walked) in
        ap (λ (l : List ℕ). firsts (l ++ joined (λ s. (shell m s).acorn_vertices) (shells_of m b))) ends
        ∙ ap (λ (l : List ℕ). firsts (joined (λ e. edge_vertices (edge n e)) (edge_walk n b) ++ l)) acorns

    pub vertex-met : (v : ℕ) → member v (vertex_walk m b) ≡ true → member v (vertices_met m b) ≡ true
    unfolding vertex_walk
    vertex-met v g =
        let ends : List ℕ = joined (λ e. edge_vertices (edge m e)) (edge_walk m b) in
        let acorns : List ℕ = joined (λ s. (shell m s).acorn_vertices) (shells_of m b) in
        elim (append-from v ends acorns (sym (member-firsts v (ends ++ acorns)) ∙ g)) [
          | inl q ↦
              let p = joined-from (λ e. edge_vertices (edge m e)) (edge_walk m b) v q in
              let t = edge-there p.0 p.1 in
              vertex-in m b p.0 t.0 t.1 v p.2
          | inr q ↦
              let p = joined-from (λ s. (shell m s).acorn_vertices) (shells_of m b) v q in
              let t = shell-there faces-walked p.0 p.1 in
              acorn-in m b p.0 t.0 t.1 v p.2
        ]

  pub vertices-same : body_vertices m b ≡ body_vertices n b
  vertices-same = answered-same (vertices_refusal m b) (vertices_refusal n b) (vertex_walk m b) (vertex_walk n b) vertices-refused vertex-walk-same
