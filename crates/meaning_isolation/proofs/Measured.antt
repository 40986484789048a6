-- Box and volume of a body in two models that are alike from it on. It rests on the walks, and passes on what specs/Measured.antt has. Assumes nothing.
use Prim.Native.Nat.{ℕ}
use Rattle.std.proofs.Common.{arith, ◌∙◌, eqb-true}
use Rattle.std.specs.Prelude.{◌≡◌, Bool, length, get_or, Float}
use Rattle.std.proofs.Math.Path.{refl, ap, ap₂}
use Rattle.std.proofs.Math.Bool.{true, cond}
use mathlib.Core.List.{[], List, ◌∷◌, ◌++◌, map, reverse}
use Rattle.std.proofs.Math.Dec.{eqb, ltb}
use Rattle.float_vectors.specs.declared.vector.Point3.{Point3}
use Rattle.float_vectors.specs.Space.{◌+ᶠ◌, finite_point}
use Rattle.interval_arithmetic.specs.Ops.{zero_f}
use Rattle.geom_lines_planes.specs.Refuse.{◌unless◌}
use Rattle.geom_carriers.specs.Queries.{line_refusal, plane_refusal}
use Rattle.meaning.specs.Lists.{all, joined, member, the, is_some, is}
use Rattle.meaning.specs.Model.{Model, Body, Region, Shell, Face, Loop, Fin, Edge, Vertex, has, body, region, shell, face, loop, fin, edge, point_of, curve, surface}
use Rattle.meaning.specs.Refuse.{first_of, ◌if◌}
use Rattle.meaning.specs.Walks.{shells_of, face_walk, faces_refusal, face_edges, edge_walk, edges_refusal, vertex_walk, vertices_refusal, Ends, directed, ends_of}
use Rattle.meaning.specs.Inquire.{flat_face, straight_edge, require_polyhedral, box_of, box_refusal, body_bounding_box, is_solid, Side, sides_of, solid_sides, outward, inward, alike, rim, start_of, start_refusal, side_refusal, sides_refusal, volume_refusal, polygon_volume, side_volume, sum_volumes, body_volume}
use Rattle.meaning_sheets.specs.Sheets.{side_points}
use Rattle.meaning_list_laws.specs.Tests.{and_both, then-zero, unless-zero}
use Rattle.meaning_list_laws.specs.Lists.{member-nth, member-firsts, all-member}
use Rattle.meaning_isolation.specs.Reached.{faces_met, edges_met, vertices_met, curves_met, surfaces_met, Alike}
use Rattle.meaning_isolation.specs.Laws.{then_same, answered-same, in-front, joined_in, map-in, the-listed, first_of-zero, all_alike, joined-alike, first_of-alike, map-alike, carrier-same}
use Rattle.meaning_isolation.proofs.Walked as Walked
use Rattle.meaning_isolation.specs.Measured.{sides-joined, sides-listed, sides-if}
pub use Rattle.meaning_isolation.specs.Measured.{sides_in, start-listed}

module _ (m n : Model) (b : ℕ) (a : Alike m n b) where
  -- a face that is met lies on the same, and so does an edge
  pub flat-same : (f : ℕ) → member f (faces_met m b) ≡ true → flat_face m f ≡ flat_face n f
  unfolding flat_face
  flat-same f g =
      then_same (2 unless has m.faces f) (2 unless has n.faces f) _ _ (ap (λ t. 2 unless t) (a.faces.there f g))
      (λ z. let h : has m.faces f ≡ true = unless-zero 1 (has m.faces f) z in
      let e : face m f ≡ face n f = a.faces.same f g h in
      then_same (1 unless is_some (face m f).surface) (1 unless is_some (face n f).surface) _ _ (ap (λ (d : Face). 1 unless is_some d.surface) e)
      (λ y. let s = the-listed (face m f).surface (unless-zero 0 (is_some (face m f).surface) y) in
      ap plane_refusal
      (carrier-same m.surfaces n.surfaces (surfaces_met m b) (the (face m f).surface) a.surfaces (Walked.surface-in m b f g h (the (face m f).surface) s)
      ∙ ap (λ (d : Face). surface n (the d.surface)) e)))

  pub straight-same : (e : ℕ) → member e (edges_met m b) ≡ true → straight_edge m e ≡ straight_edge n e
  unfolding straight_edge
  straight-same e g =
      then_same (2 unless has m.edges e) (2 unless has n.edges e) _ _ (ap (λ t. 2 unless t) (a.edges.there e g))
      (λ z. let h : has m.edges e ≡ true = unless-zero 1 (has m.edges e) z in
      let q : edge m e ≡ edge n e = a.edges.same e g h in
      then_same (1 unless is_some (edge m e).curve) (1 unless is_some (edge n e).curve) _ _ (ap (λ (d : Edge). 1 unless is_some d.curve) q)
      (λ y. let c = the-listed (edge m e).curve (unless-zero 0 (is_some (edge m e).curve) y) in
      ap line_refusal
      (carrier-same m.curves n.curves (curves_met m b) (the (edge m e).curve) a.curves (Walked.curve-in m b e g h (the (edge m e).curve) c)
      ∙ ap (λ (d : Edge). curve n (the d.curve)) q)))

  pub polyhedral-same : require_polyhedral m b ≡ require_polyhedral n b
  unfolding require_polyhedral
  polyhedral-same =
      then_same (faces_refusal m b) (faces_refusal n b) _ _ (Walked.faces-refused m n b a)
      (λ z. then_same (first_of (flat_face m) (face_walk m b)) (first_of (flat_face n) (face_walk n b)) _ _
      (first_of-alike (flat_face m) (flat_face n) (face_walk m b) (λ f g. flat-same f (Walked.face-met m n b a z f g)) ∙ ap (first_of (flat_face n)) (Walked.face-walk-same m n b a z))
      (λ _. then_same (edges_refusal m b) (edges_refusal n b) _ _ (Walked.edges-refused m n b a)
      (λ y. first_of-alike (straight_edge m) (straight_edge n) (edge_walk m b) (λ e g. straight-same e (Walked.edge-met m n b a y e g))
      ∙ ap (first_of (straight_edge n)) (Walked.edge-walk-same m n b a y))))

  -- ---- the box

  box-refused : box_refusal m b ≡ box_refusal n b
  unfolding box_refusal
  box-refused =
      then_same (require_polyhedral m b) (require_polyhedral n b) _ _ polyhedral-same
      (λ _. then_same (vertices_refusal m b) (vertices_refusal n b) _ _ (Walked.vertices-refused m n b a)
      (λ z. let walk = Walked.vertex-walk-same m n b a z in
      then_same (2 unless all (has m.vertices) (vertex_walk m b)) (2 unless all (has n.vertices) (vertex_walk n b)) _ _
      (ap (λ t. 2 unless t)
      (all_alike (has m.vertices) (has n.vertices) (vertex_walk m b) (λ v g. a.vertices.there v (Walked.vertex-met m n b a z v g)) ∙ ap (all (has n.vertices)) walk))
      (λ y. then_same (4 if eqb (length (vertex_walk m b)) 0) (4 if eqb (length (vertex_walk n b)) 0) _ _ (ap (λ (l : List ℕ). 4 if eqb (length l) 0) walk)
      (λ _. ap (λ t. 4 unless t)
      (all_alike (λ v. finite_point (point_of m v)) (λ v. finite_point (point_of n v)) (vertex_walk m b) (λ v g. ap finite_point (point-same z (unless-zero 1 _ y) v g))
      ∙ ap (all (λ v. finite_point (point_of n v))) walk)))))
    where
      point-same : vertices_refusal m b ≡ 0 → all (has m.vertices) (vertex_walk m b) ≡ true → (v : ℕ) → member v (vertex_walk m b) ≡ true → point_of m v ≡ point_of n v
      point-same z y v g =
          ap (λ (d : Vertex). d.point) (a.vertices.same v (Walked.vertex-met m n b a z v g) (all-member (has m.vertices) (vertex_walk m b) v y g))

  box_value : box_refusal m b ≡ 0 → box_of (map (point_of m) (vertex_walk m b)) ≡ box_of (map (point_of n) (vertex_walk n b))
  unfolding box_refusal
  box_value z =
      let p = (then-zero (require_polyhedral m b) _ z).1 in
      let q = then-zero (vertices_refusal m b) _ p in
      let y = unless-zero 1 (all (has m.vertices) (vertex_walk m b)) (then-zero (2 unless all (has m.vertices) (vertex_walk m b)) _ q.1).0 in
      ap box_of
      (map-alike (point_of m) (point_of n) (vertex_walk m b)
      (λ v g. ap (λ (d : Vertex). d.point) (a.vertices.same v (Walked.vertex-met m n b a q.0 v g) (all-member (has m.vertices) (vertex_walk m b) v y g)))
      ∙ ap (map (point_of n)) (Walked.vertex-walk-same m n b a q.0))

  pub box-same : body_bounding_box m b ≡ body_bounding_box n b
  box-same = answered-same (box_refusal m b) (box_refusal n b) _ _ box-refused box_value

  -- ---- the volume: where all faces are flat and all edges straight

  module _ (z : require_polyhedral m b ≡ 0) where
    faces-walked : faces_refusal m b ≡ 0
    unfolding require_polyhedral
    faces-walked = (then-zero (faces_refusal m b) _ z).0

    pub edges-walked : edges_refusal m b ≡ 0
    unfolding require_polyhedral
    edges-walked = (then-zero (edges_refusal m b) _ (then-zero (first_of (flat_face m) (face_walk m b)) _ (then-zero (faces_refusal m b) _ z).1).1).0

    edge-there : (e : ℕ) → member e (edge_walk m b) ≡ true → has m.edges e ≡ true
    unfolding require_polyhedral straight_edge
    edge-there e g =
        let q = first_of-zero (straight_edge m) (edge_walk m b) e (then-zero (edges_refusal m b) _ (then-zero (first_of (flat_face m) (face_walk m b)) _ (then-zero (faces_refusal m b) _ z).1).1).1 g in
        unless-zero 1 (has m.edges e) (then-zero (2 unless has m.edges e) _ q).0

    pub body-there : has m.bodies b ≡ true
    body-there = (Walked.followed m n b a faces-walked).0

    sides-of-same : (s : ℕ) → member s (shells_of m b) ≡ true → sides_of m s ≡ sides_of n s
    sides-of-same s g = ap (λ (d : Shell). map (λ f. record { shell = s; face = f }) d.faces) (Walked.shell-same m n b a faces-walked s g)

    pub sides-same : solid_sides m b ≡ solid_sides n b
    unfolding solid_sides
    sides-same =
        joined-alike (λ r. cond (region m r).solid (joined (sides_of m) (region m r).shells) []) (λ r. cond (region n r).solid (joined (sides_of n) (region n r).shells) []) (body m b).regions
        (λ r g. let t = Walked.region-there m n b a faces-walked r g in
        ap (λ (l : List Side). cond (region m r).solid l []) (joined-alike (sides_of m) (sides_of n) (region m r).shells (λ s q. sides-of-same s (joined_in (λ r. (region m r).shells) (body m b).regions r s g q)))
        ∙ ap (λ (d : Region). cond d.solid (joined (sides_of n) d.shells) []) (a.regions.same r t.0 t.1))
        ∙ ap (λ (d : Body). joined (λ r. cond (region n r).solid (joined (sides_of n) (region n r).shells) []) d.regions) (Walked.body_same m n b a body-there)

    face-listed : (s f : ℕ) → member s (shells_of m b) ≡ true → member f (shell m s).faces ≡ true → member f (face_walk m b) ≡ true
    unfolding face_walk
    face-listed s f g q = member-firsts f (joined (λ s. (shell m s).faces) (shells_of m b)) ∙ joined_in (λ s. (shell m s).faces) (shells_of m b) s f g q

    pub sides-walked : sides_in (face_walk m b) (solid_sides m b) ≡ true
    unfolding solid_sides
    sides-walked =
        sides-joined (face_walk m b) (λ r. cond (region m r).solid (joined (sides_of m) (region m r).shells) []) (body m b).regions
        (λ r g. sides-if (face_walk m b) (region m r).solid (joined (sides_of m) (region m r).shells)
        (sides-joined (face_walk m b) (sides_of m) (region m r).shells
        (λ s q. sides-listed (face_walk m b) s (shell m s).faces (λ f p. face-listed s f (joined_in (λ r. (region m r).shells) (body m b).regions r s g q) p))))

    -- a face that is walked, its only loop and the fins of that
    module _ (f : ℕ) (g : member f (face_walk m b) ≡ true) (one : eqb (length (face m f).loops) 1 ≡ true) where
      abbrev pub only : ℕ
      only = get_or (face m f).loops 0 0

      pub only-in : member only (face m f).loops ≡ true
      only-in = let e = eqb-true (length (face m f).loops) 1 one in member-nth (face m f).loops 0 (omega arith)

      face-same : face m f ≡ face n f
      face-same = Walked.face-same m n b a edges-walked f g

      pub rim-same : rim m f ≡ rim n f
      rim-same = ap (λ (d : Loop). d.fins) (Walked.loop-same m n b a edges-walked f g only only-in) ∙ ap (λ (d : Face). (loop n (get_or d.loops 0 0)).fins) face-same

      module _ (i : ℕ) (q : member i (rim m f) ≡ true) where
        pub its-edge : (member (fin m i).edge (edges_met m b) ≡ true) × (has m.edges (fin m i).edge ≡ true)
        unfolding edge_walk
        its-edge =
            let t = Walked.fin-there m n b a edges-walked f g only i only-in q in
            let fins = joined_in (λ l. (loop m l).fins) (face m f).loops only i only-in q in
            let edges = joined_in (face_edges m) (face_walk m b) f (fin m i).edge g (map-in (λ i. (fin m i).edge) (joined (λ l. (loop m l).fins) (face m f).loops) i fins) in
            let k : List ℕ = joined (face_edges m) (face_walk m b) in
            let l : List ℕ = joined (λ s. (shell m s).wire_edges) (shells_of m b) in
            (Walked.edge_in m b i t.0 t.1, edge-there (fin m i).edge (member-firsts (fin m i).edge (k ++ l) ∙ in-front (fin m i).edge k l edges))

        pub ends_same : ends_of m i ≡ ends_of n i
        ends_same =
            ap (directed (fin m i).sense) (a.edges.same (fin m i).edge its-edge.0 its-edge.1)
            ∙ ap (λ (d : Fin). directed d.sense (edge n d.edge)) (Walked.fin-same m n b a edges-walked f g only i only-in q)

        pub start-met : is_some (start_of m i) ≡ true → member (the (start_of m i)) (vertices_met m b) ≡ true
        start-met h =
            Walked.vertex-in m b (fin m i).edge its-edge.0 its-edge.1 (the (start_of m i)) (start-listed (fin m i).sense (edge m (fin m i).edge) h)

        start-refused : start_refusal m i ≡ start_refusal n i
        start-refused =
            then_same (7 unless is_some (start_of m i)) (7 unless is_some (start_of n i)) _ _ (ap (λ (d : Ends). 7 unless is_some d.start) ends_same)
            (λ y. ap (λ t. 2 unless t) (a.vertices.there (the (start_of m i)) (start-met (unless-zero 6 (is_some (start_of m i)) y)))
            ∙ ap (λ (d : Ends). 2 unless has n.vertices (the d.start)) ends_same)

        start-point : start_refusal m i ≡ 0 → point_of m (the (start_of m i)) ≡ point_of n (the (start_of n i))
        start-point y =
            let p = then-zero (7 unless is_some (start_of m i)) (2 unless has m.vertices (the (start_of m i))) y in
            ap (λ (d : Vertex). d.point)
            (a.vertices.same (the (start_of m i)) (start-met (unless-zero 6 (is_some (start_of m i)) p.0)) (unless-zero 1 (has m.vertices (the (start_of m i))) p.1))
            ∙ ap (λ (d : Ends). point_of n (the d.start)) ends_same

    module _ (s : Side) (g : member s.face (face_walk m b) ≡ true) where
      whole : face m s.face ≡ face n s.face
      whole = Walked.face-same m n b a edges-walked s.face g

      pub side-refused : side_refusal m s ≡ side_refusal n s
      unfolding side_refusal
      side-refused =
          then_same (1 if alike (outward m s) (inward m s)) (1 if alike (outward n s) (inward n s)) _ _
          (ap (λ (d : Face). 1 if alike (is d.back s.shell) (is d.front s.shell)) whole)
          (λ _. then_same (7 unless eqb (length (face m s.face).loops) 1) (7 unless eqb (length (face n s.face).loops) 1) _ _
          (ap (λ (d : Face). 7 unless eqb (length d.loops) 1) whole)
          (λ y. let one = unless-zero 6 (eqb (length (face m s.face).loops) 1) y in
          then_same (4 if ltb (length (rim m s.face)) 3) (4 if ltb (length (rim n s.face)) 3) _ _ (ap (λ (l : List ℕ). 4 if ltb (length l) 3) (rim-same s.face g one))
          (λ _. first_of-alike (start_refusal m) (start_refusal n) (rim m s.face) (start-refused s.face g one) ∙ ap (first_of (start_refusal n)) (rim-same s.face g one))))

      -- where it is not refused: its fins, the points of its fan and its volume
      module _ (y : side_refusal m s ≡ 0) where
        looped : (eqb (length (face m s.face).loops) 1 ≡ true) × (first_of (start_refusal m) (rim m s.face) ≡ 0)
        unfolding side_refusal
        looped =
            let q = then-zero (7 unless eqb (length (face m s.face).loops) 1) _ (then-zero (1 if alike (outward m s) (inward m s)) _ y).1 in
            (unless-zero 6 (eqb (length (face m s.face).loops) 1) q.0, (then-zero (4 if ltb (length (rim m s.face)) 3) _ q.1).1)

        pub fins-same : rim m s.face ≡ rim n s.face
        fins-same = rim-same s.face g looped.0

        pub points-same : side_points m s ≡ side_points n s
        unfolding side_points
        points-same =
            ap₂ (λ (b : Bool) (l : List Point3). cond b (reverse l) l) (ap (λ (d : Face). is d.front s.shell) whole)
            (map-alike (λ i. point_of m (the (start_of m i))) (λ i. point_of n (the (start_of n i))) (rim m s.face)
            (λ i r. start-point s.face g looped.0 i r (first_of-zero (start_refusal m) (rim m s.face) i looped.1 r))
            ∙ ap (map (λ i. point_of n (the (start_of n i)))) fins-same)

        pub side-volume : side_volume m s ≡ side_volume n s
        unfolding side_volume side_points
        side-volume = ap polygon_volume points-same

    sides-refused : (l : List Side) → sides_in (face_walk m b) l ≡ true → sides_refusal m l ≡ sides_refusal n l
    unfolding sides_refusal
    sides-refused [] h = refl
    sides-refused (s ∷ l) h =
        let t = and_both (member s.face (face_walk m b)) (sides_in (face_walk m b) l) h in
        then_same (side_refusal m s) (side_refusal n s) _ _ (side-refused s t.0) (λ _. sides-refused l t.1)

    volumes-same : (l : List Side) (acc : Float) → sides_in (face_walk m b) l ≡ true → sides_refusal m l ≡ 0 → sum_volumes m acc l ≡ sum_volumes n acc l
    unfolding sum_volumes sides_refusal
    volumes-same [] acc h y = refl
    volumes-same (s ∷ l) acc h y =
        let t = and_both (member s.face (face_walk m b)) (sides_in (face_walk m b) l) h in
        let p = then-zero (side_refusal m s) (sides_refusal m l) y in
        volumes-same l (acc +ᶠ side_volume m s) t.1 p.1 ∙ ap (λ (v : Float). sum_volumes n (acc +ᶠ v) l) (side-volume s t.0 p.0)

  pub volume-refused : volume_refusal m b ≡ volume_refusal n b
  unfolding volume_refusal
  volume-refused =
      then_same (require_polyhedral m b) (require_polyhedral n b) _ _ polyhedral-same
      (λ z. then_same (6 unless is_solid (body m b).kind) (6 unless is_solid (body n b).kind) _ _
      (ap (λ (d : Body). 6 unless is_solid d.kind) (Walked.body_same m n b a (body-there z)))
      (λ _. then_same (sides_refusal m (solid_sides m b)) (sides_refusal n (solid_sides n b)) _ _
      (sides-refused z (solid_sides m b) (sides-walked z) ∙ ap (sides_refusal n) (sides-same z))
      (λ _. ap (λ (l : List Side). 4 if eqb (length l) 0) (sides-same z))))

  -- a volume that is given is one of flat faces and straight edges, none of whose sides is refused
  pub volume-given : volume_refusal m b ≡ 0 → (require_polyhedral m b ≡ 0) × (sides_refusal m (solid_sides m b) ≡ 0)
  unfolding volume_refusal
  volume-given y =
      let p = then-zero (require_polyhedral m b) _ y in
      (p.0, (then-zero (sides_refusal m (solid_sides m b)) _ (then-zero (6 unless is_solid (body m b).kind) _ p.1).1).0)

  volume-value : volume_refusal m b ≡ 0 → sum_volumes m zero_f (solid_sides m b) ≡ sum_volumes n zero_f (solid_sides n b)
  volume-value y =
      let p = volume-given y in
      volumes-same p.0 (solid_sides m b) zero_f (sides-walked p.0) p.1 ∙ ap (sum_volumes n zero_f) (sides-same p.0)

  pub volume-same : body_volume m b ≡ body_volume n b
  volume-same = answered-same (volume_refusal m b) (volume_refusal n b) _ _ volume-refused volume-value
