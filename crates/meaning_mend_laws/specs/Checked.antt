-- The report of a mended body: that of before without the reasons of its pointers. Assumes nothing.
use Prim.Native.Nat.{ℕ, zero, suc}
use Rattle.std.specs.Prelude.{◌≡◌, ◌&&◌, ◌||◌, Float}
use Rattle.std.proofs.Math.Path.{refl, sym, ap, ap₂, subst, fun_ext}
use Rattle.std.proofs.Common.{◌∙◌, eqb-true, eq-eqb}
use Rattle.std.proofs.Math.Bool.{Bool, true, false, not, cond}
use Rattle.std.proofs.lemmas.Bool.{false≢true}
use mathlib.Core.List.{List, [], ◌∷◌, ◌++◌, map}
use Rattle.std.proofs.Math.Option.{Option, none, some}
use Rattle.std.proofs.Math.Dec.{eqb}
use Rattle.std.specs.Float.Ieee.{lt}
use Rattle.interval_arithmetic.specs.declared.Sign.{Sign}
use Rattle.interval_arithmetic.specs.declared.Sign.TheVariants.{Negative, Zero, Positive, Unresolved}
use Rattle.float_vectors.specs.declared.vector.Point3.{Point3}
use Rattle.geom_lines_planes.specs.Geometry.{line_point, nearest, plane_distance, effective}
use Rattle.geom_carriers.specs.Queries.{the_line, the_plane}
use Rattle.geom_signs.specs.Signs.{off_curve_s}
use Rattle.geom_lines_planes.specs.declared.tolerance.Tolerance.{Tolerance}
use Rattle.meaning.specs.Lists.{run, member, joined, is, the, same}
use Rattle.meaning.specs.Model.{Model, Sense, positive, negative, changed, has, body, region, shell, face, loop, fin, edge, vertex, point_of, curve, surface}
use Rattle.meaning.specs.Walks.{readable_fin, edge_vertices, Ends, directed, ends_of, face_walk, faces_refusal, edge_walk, edges_refusal}
use Rattle.meaning.specs.Inquire.{is_solid}
use Rattle.meaning.specs.Faults.{Finding, found, skipped, Asked, about, of_edge, of_vertex, fault_on, fault, only_if, geometry_error, off_curve, curve_test, point_on_surface, end_tests, sample_at, sample_test, sample_tests, projected, other_ring, carried, fin_geometry, CheckOptions, fin_findings, meets_next, open_at, opens, open_findings, layout, same_sense, manifold, manifold_edge, manifold_edges, findings, faults_of}
use Rattle.meaning_list_laws.specs.Lists.{fold-in, joined-none, joined-cons}
use Rattle.meaning_list_laws.specs.Tests.{and-false}
use Rattle.meaning_list_laws.specs.Findings.{NoFault, no-fault-joined}
use Rattle.meaning_mends.specs.Mends.{Child, a_region, a_shell, a_loop, a_fin, Meeting, met, meetings}
use Rattle.meaning_mends.specs.Laws.{parent, list_wants, wants_all, Has, Each, Met}
use Rattle.meaning_mend_laws.specs.Terms.{linked, of_pointers, without, list_findings, manifold_by, listing, new_listing, TwoFins}

-- ---- findings without those reasons

pub without-append : (k l : List Finding) → without (k ++ l) ≡ without k ++ without l
unfolding without
without-append [] l = refl
without-append (found f ∷ k) l = rw (without-append k l) (by (of_pointers f.reason))
  where
    by : (b : Bool) → cond b (without k ++ without l) (found f ∷ (without k ++ without l)) ≡ cond b (without k) (found f ∷ without k) ++ without l
    by true = refl
    by false = refl
without-append (skipped ∷ k) l = rw (without-append k l)

without-joined : (f : ℕ → List Finding) (l : List ℕ) → without (joined f l) ≡ joined (λ y. without (f y)) l
unfolding joined
without-joined f [] = unfold without in refl
without-joined f (y ∷ l) = without-append (f y) (joined f l) ∙ ap (λ r. without (f y) ++ r) (without-joined f l)

pub without-cond : (b : Bool) (k l : List Finding) → without (cond b k l) ≡ cond b (without k) (without l)
without-cond true k l = refl
without-cond false k l = refl

-- a fault of those reasons goes, one of another stays
pub gone : (n i : ℕ) (b : Bool) (l : List Finding) → of_pointers n ≡ true → without (only_if b (fault n i) ++ l) ≡ without l
unfolding without fault_on
gone n i true l h = rw h
gone n i false l h = refl

pub stays : (n : ℕ) (a : Asked) → of_pointers n ≡ false → without (fault_on n a ∷ []) ≡ fault_on n a ∷ []
unfolding without fault_on
stays n a h = rw h

pub stays-if : (n i : ℕ) (b : Bool) (l : List Finding) → of_pointers n ≡ false → without (only_if b (fault n i) ++ l) ≡ only_if b (fault n i) ++ without l
unfolding without fault_on
stays-if n i true l h = rw h
stays-if n i false l h = refl

-- ---- those that have none of them

abbrev pub Other : List Finding → Type 0
Other l = without l ≡ l

pub other_none : Other []
unfolding without
other_none = refl

other-skipped : Other (skipped ∷ [])
unfolding without
other-skipped = refl

other-append : (k l : List Finding) → Other k → Other l → Other (k ++ l)
other-append k l p q = without-append k l ∙ ap₂ ◌++◌ p q

pub other-joined : (f : ℕ → List Finding) (l : List ℕ) → ((y : ℕ) → Other (f y)) → Other (joined f l)
unfolding joined
other-joined f [] h = other_none
other-joined f (y ∷ l) h = other-append (f y) (joined f l) (h y) (other-joined f l h)

pub other-cond : (b : Bool) (k l : List Finding) → Other k → Other l → Other (cond b k l)
other-cond true k l p q = p
other-cond false k l p q = q

other-if : (b : Bool) (f : Finding) → Other (f ∷ []) → Other (only_if b f)
other-if true f h = h
other-if false f h = other_none

other-error : (a : Asked) (n : ℕ) (l : List Finding) → Other l → Other (geometry_error a n l)
unfolding geometry_error member
other-error a zero l h = h
other-error a (suc n) l h =
    other-cond (eqb n 6) (skipped ∷ []) (cond (eqb n 1) (fault_on 25 a ∷ []) (fault_on 26 a ∷ [])) other-skipped
    (other-cond (eqb n 1) (fault_on 25 a ∷ []) (fault_on 26 a ∷ []) (stays 25 a refl) (stays 26 a refl))

other-off : (s : Sign) (v : ℕ) → Other (off_curve s v)
unfolding member
other-off Negative v = other_none
other-off Zero v = other_none
other-off Positive v = stays 22 _ refl
other-off Unresolved v = other-skipped

module _ (m : Model) where
  other-on : (s : ℕ) (p : Point3) (t : Float) (n : ℕ) (a : Asked) → of_pointers n ≡ false → Other (point_on_surface m s p t n a)
  unfolding point_on_surface
  other-on s p t n a h = other-error a _ _ (other-if (lt t (plane_distance (the_plane (surface m s)) p)) (fault_on n a) (stays n a h))

  abbrev wide : Tolerance → Float
  wide t = effective m.version t m.precision

  other-curve : (e c v : ℕ) → Other (curve_test m e c v)
  unfolding curve_test
  other-curve e c v =
      let line = the_line (curve m c) in
      other-error _ _ _ (other-off (off_curve_s (point_of m v) (line_point line (nearest line (point_of m v))) (wide (vertex m v).tolerance) (wide (edge m e).tolerance)) v)

  other-ends : (e c s v : ℕ) → Other (end_tests m e c s v)
  unfolding end_tests member
  other-ends e c s v =
      let on = point_on_surface m s (point_of m v) (wide (vertex m v).tolerance) 23 (about of_vertex v) in
      other-cond (has m.vertices v) (curve_test m e c v ++ on) [] (other-append (curve_test m e c v) on (other-curve e c v) (other-on s (point_of m v) (wide (vertex m v).tolerance) 23 (about of_vertex v) refl)) other_none

  other-sample : (e c s : ℕ) (t : Float) → Other (sample_test m e c s t)
  unfolding sample_test member
  other-sample e c s t = other-error _ _ _ (other-on s (line_point (the_line (curve m c)) t) (wide (edge m e).tolerance) 24 (about of_edge e) refl)

  other-samples : (k e c s : ℕ) → Other (sample_tests m k e c s)
  unfolding sample_tests
  other-samples k e c s =
      let along : ℕ → List Finding = λ j. sample_test m e c s (sample_at (nearest (the_line (curve m c)) (point_of m (the (edge m e).start))) (nearest (the_line (curve m c)) (point_of m (the (edge m e).end))) k j) in
      other-cond (projected m c (edge m e).start && projected m c (edge m e).end) (joined along (run 1 k)) [] (other-joined along (run 1 k) (λ j. other-sample e c s _)) other_none

  other-carried : (k e : ℕ) (c s : Option ℕ) → Other (carried m k e c s)
  unfolding carried member
  other-carried k e none s = stays 21 _ refl
  other-carried k e (some c) none = other_none
  other-carried k e (some c) (some s) =
      other-append _ _ (other-append _ _ (other-joined (end_tests m e c s) (edge_vertices (edge m e)) (other-ends e c s)) (other-samples k e c s)) (other-if (other_ring m e c s) skipped other-skipped)

  pub other-geometry : (k f i : ℕ) → Other (fin_geometry m k f i)
  unfolding fin_geometry
  other-geometry k f i = other-cond (readable_fin m i) _ [] (other-carried k _ _ _) other_none

  pub other-opens : (k l : List ℕ) → Other (opens m k l)
  unfolding opens member
  other-opens [] l = other_none
  other-opens (i ∷ k) [] = other_none
  other-opens (i ∷ k) (j ∷ l) = other-append (open_at m i j) (opens m k l) (other-if (readable_fin m i && readable_fin m j && not (meets_next m i j)) (fault 18 i) (stays 18 _ refl)) (other-opens k l)

-- ---- what holds of all meetings

module _ (P : Meeting → Type 0) where
  met-parts : (k l : List Meeting) → Met P (k ++ l) → Met P k × Met P l
  met-parts [] l h = (tt, h)
  met-parts (t ∷ k) l h = let rest = met-parts k l h.1 in ((h.0, rest.0), rest.1)

  pub met_at : (f : ℕ → List Meeting) (l : List ℕ) → Met P (joined f l) → (y : ℕ) → member y l ≡ true → Met P (f y)
  unfolding joined member
  met_at f [] h y q = absurd (false≢true q)
  met_at f (x ∷ l) h y q = let parts = met-parts (f x) (joined f l) h in by (eqb y x) refl q parts.0 (met_at f l parts.1 y)
    where
      by : (b : Bool) → eqb y x ≡ b → (b || member y l) ≡ true → Met P (f x) → (member y l ≡ true → Met P (f y)) → Met P (f y)
      by true e r here rest = subst (λ z. Met P (f z)) (sym (eqb-true y x e)) here
      by false e r here rest = rest r

  pub met-one : (f : ℕ → Meeting) (l : List ℕ) → Met P (map f l) → (y : ℕ) → member y l ≡ true → P (f y)
  unfolding member
  met-one f [] h y q = absurd (false≢true q)
  met-one f (x ∷ l) h y q = by (eqb y x) refl q (λ r. met-one f l h.1 y r)
    where
      by : (b : Bool) → eqb y x ≡ b → (b || member y l) ≡ true → (member y l ≡ true → P (f y)) → P (f y)
      by true e r rest = subst (λ z. P (f z)) (sym (eqb-true y x e)) h.0
      by false e r rest = rest r

pub alike : (f g : ℕ → List Finding) (l : List ℕ) → ((y : ℕ) → member y l ≡ true → f y ≡ without (g y)) → joined f l ≡ without (joined g l)
alike f g l h = fold-in joined ◌++◌ [] joined-none joined-cons f (λ y. without (g y)) l h ∙ sym (without-joined g l)

-- ---- the model with other pointers: all that is found of edges' ends, curves and surfaces is the same

module _ (m : Model) (u : Child → ℕ → ℕ) (a : ℕ → List ℕ) where
  abbrev pub n : Model
  n = linked m u a

  same_test : (e c s v : ℕ) → end_tests n e c s v ≡ end_tests m e c s v
  unfolding linked changed end_tests curve_test point_on_surface
  same_test e c s v = refl

  same-projected : (c : ℕ) (o : Option ℕ) → projected n c o ≡ projected m c o
  unfolding linked changed
  same-projected c none = refl
  same-projected c (some v) = refl

  same-samples : (k e c s : ℕ) → sample_tests n k e c s ≡ sample_tests m k e c s
  unfolding linked changed sample_tests sample_test point_on_surface
  same-samples k e c s = ap₂ (λ x y. cond (x && y) (joined along (run 1 k)) []) (same-projected c (edge m e).start) (same-projected c (edge m e).end)
    where
      along : ℕ → List Finding
      along j = sample_test m e c s (sample_at (nearest (the_line (curve m c)) (point_of m (the (edge m e).start))) (nearest (the_line (curve m c)) (point_of m (the (edge m e).end))) k j)

  same-carried : (k e : ℕ) (c s : Option ℕ) → carried n k e c s ≡ carried m k e c s
  unfolding linked changed carried
  same-carried k e none s = refl
  same-carried k e (some c) none = refl
  same-carried k e (some c) (some s) =
      ap₂ (λ (x y : List Finding). x ++ y ++ only_if (other_ring m e c s) skipped)
      (ap (λ (f : ℕ → List Finding). joined f (edge_vertices (edge m e))) (fun_ext (same_test e c s)))
      (same-samples k e c s)

  pub same-geometry : (k f i : ℕ) → fin_geometry n k f i ≡ fin_geometry m k f i
  unfolding linked changed fin_geometry
  same-geometry k f i = ap (λ r. cond (readable_fin m i) r []) (same-carried k (fin m i).edge (edge m (fin m i).edge).curve (face m f).surface)

  -- an edge's ends stand in their order, whatever fins it lists
  pub same_ends : (i : ℕ) → ends_of n i ≡ ends_of m i
  unfolding linked changed
  same_ends i = by (fin m i).sense
    where
      by : (s : Sense) → directed s (edge n (fin m i).edge) ≡ directed s (edge m (fin m i).edge)
      by positive = refl
      by negative = refl

  pub same-opens : (k l : List ℕ) → opens n k l ≡ opens m k l
  unfolding linked changed opens
  same-opens [] l = refl
  same-opens (i ∷ k) [] = refl
  same-opens (i ∷ k) (j ∷ l) = ap₂ ◌++◌ (ap₂ (λ (d g : Ends). only_if (readable_fin m i && readable_fin m j && not (same d.end g.start)) (fault 18 i)) (same_ends i) (same_ends j)) (same-opens k l)

  -- ---- a fin, a loop, a face, a shell and a region whose pointers are right

  abbrev pub Right : Meeting → Type 0
  Right t = Has n (parent t) × Each (Has n) (list_wants t.child t.id)

  pub all_right : (l : List Meeting) → Each (Has n) (wants_all l) → Met Right l
  unfolding wants_all
  all_right [] h = tt
  all_right (t ∷ l) h = let parts = by t.child h.1 in ((h.0, parts.0), all_right l parts.1)
    where
      by : (k : Child) → Each (Has n) (list_wants k t.id ++ wants_all l) → Each (Has n) (list_wants k t.id) × Each (Has n) (wants_all l)
      by a_region g = (tt, g)
      by a_shell g = (tt, g)
      by a_loop g = (tt, g)
      by a_fin g = ((g.0, tt), g.1)

  pub fin-right : (l i : ℕ) → Right (met a_fin l i) → fin_findings n l i ≡ without (fin_findings m l i)
  unfolding fin_findings linked changed member
  fin-right l i h =
      ap₂ (λ x y. cond (has m.fins i) (only_if (not x) (fault 14 i) ++ cond (has m.edges e) (only_if (not y) (fault 16 e) ++ ends) (fault 15 i ∷ [])) (fault 13 l ∷ [])) (eq-eqb (u a_fin i) l h.0) h.1.0
      ∙ sym (without-cond (has m.fins i) _ (fault 13 l ∷ [])
      ∙ ap₂ (cond (has m.fins i))
      (gone 14 i (not (eqb (fin m i).owner l)) _ refl ∙ without-cond (has m.edges e) _ (fault 15 i ∷ []) ∙ ap₂ (cond (has m.edges e)) (gone 16 e (not (member i (edge m e).fins)) ends refl ∙ others) (stays 15 _ refl))
      (stays 13 _ refl))
    where
      e : ℕ
      e = (fin m i).edge

      ends : List Finding
      ends = joined (λ v. only_if (not (has m.vertices v)) (fault 17 e)) (edge_vertices (edge m e))

      others : Other ends
      others = other-joined (λ v. only_if (not (has m.vertices v)) (fault 17 e)) (edge_vertices (edge m e)) (λ v. other-if (not (has m.vertices v)) (fault 17 e) (stays 17 _ refl))

  module _ (o : CheckOptions) where
    -- of a loop's fins, then of where they meet, then of their geometry
    abbrev pub within : Model → ℕ → ℕ → List ℕ → List Finding
    within w f l fins = joined (fin_findings w l) fins ++ open_findings w fins ++ cond o.geometry (joined (fin_geometry w o.edge_samples f) fins) []

    pub layout-right : (b : ℕ) (l : List ℕ) → layout n b l ≡ without (layout m b l)
    unfolding linked changed member
    layout-right b [] = sym (stays 1 _ refl)
    layout-right b (r ∷ l) = sym (other-if (has m.regions r && (region m r).solid) (fault 2 b) (stays 2 _ refl))

  -- ---- the manifold edges: they go by the lists

  same-manifold : (e : ℕ) (l : List ℕ) → manifold n e l ≡ manifold m e l
  unfolding linked changed manifold
  same-manifold e [] = refl
  same-manifold e (i ∷ []) = refl
  same-manifold e (i ∷ j ∷ []) = refl
  same-manifold e (i ∷ j ∷ k ∷ l) = refl

  pub manifolds : (b : ℕ) → manifold_edges n b ≡ manifold_by m b a
  unfolding linked changed manifold_edges manifold_edge manifold_by edges_refusal faces_refusal edge_walk face_walk
  manifolds b =
      ap (λ (f : ℕ → List Finding). cond (is_solid (body m b).kind && eqb (edges_refusal m b) 0) (joined f (edge_walk m b)) [])
      (fun_ext (λ e. ap (λ (r : List Finding). cond (has m.edges e) r []) (same-manifold e (a e))))

other-manifold : (m : Model) (e : ℕ) (l : List ℕ) → Other (manifold m e l)
unfolding manifold member
other-manifold m e [] = stays 19 _ refl
other-manifold m e (i ∷ []) = stays 19 _ refl
other-manifold m e (i ∷ j ∷ []) = other-if (has m.fins i && has m.fins j && same_sense (fin m i).sense (fin m j).sense) (fault 20 e) (stays 20 _ refl)
other-manifold m e (i ∷ j ∷ k ∷ l) = stays 19 _ refl

other-manifolds : (m : Model) (b : ℕ) → Other (manifold_edges m b)
unfolding manifold_edges manifold_edge
other-manifolds m b =
    other-cond (is_solid (body m b).kind && eqb (edges_refusal m b) 0) (joined (manifold_edge m) (edge_walk m b)) []
    (other-joined (manifold_edge m) (edge_walk m b) (λ e. other-cond (has m.edges e) (manifold m e (edge m e).fins) [] (other-manifold m e (edge m e).fins) other_none)) other_none

-- the whole report without those reasons
pub without-findings : (m : Model) (o : CheckOptions) (b : ℕ) → without (findings m o b) ≡ without (list_findings m o b) ++ manifold_edges m b
unfolding findings
without-findings m o b = without-append (list_findings m o b) (manifold_edges m b) ∙ ap (λ (y : List Finding). without (list_findings m o b) ++ y) (other-manifolds m b)

-- by lists of no difference: of a body that is no solid, whatever they are
pub manifold-none : (m : Model) (b : ℕ) (a : ℕ → List ℕ) → is_solid (body m b).kind ≡ false → manifold_by m b a ≡ []
unfolding manifold_by
manifold-none m b a h = rw h

pub manifold-own : (m : Model) (b : ℕ) → manifold_edges m b ≡ manifold_by m b (listing m)
unfolding manifold_by manifold_edges manifold_edge
manifold-own m b = refl

-- two fins of opposite sense are no fault
pub manifold-quiet : (m : Model) (b : ℕ) → (is_solid (body m b).kind ≡ true → (e : ℕ) → member e (edge_walk m b) ≡ true → TwoFins m b e) → NoFault (manifold_by m b (new_listing m b))
unfolding manifold_by
manifold-quiet m b two = by (is_solid (body m b).kind) refl (eqb (edges_refusal m b) 0)
  where
    none_found : NoFault []
    none_found = unfold faults_of in refl

    pair : (e i j : ℕ) → same_sense (fin m i).sense (fin m j).sense ≡ false → NoFault (manifold m e (i ∷ j ∷ []))
    pair e i j h = unfold manifold in rw (h, and-false (has m.fins i && has m.fins j)) none_found

    each : (e : ℕ) (t : Bool) → TwoFins m b e → NoFault (cond t (manifold m e (new_listing m b e)) [])
    each e true f = rw f.both (pair e f.first f.second f.opposite)
    each e false f = none_found

    by : (s : Bool) → is_solid (body m b).kind ≡ s → (t : Bool) → NoFault (cond (s && t) (joined (λ e. cond (has m.edges e) (manifold m e (new_listing m b e)) []) (edge_walk m b)) [])
    by true q true = no-fault-joined (λ e. cond (has m.edges e) (manifold m e (new_listing m b e)) []) (edge_walk m b) (λ e h. each e (has m.edges e) (two q e h))
    by true q false = none_found
    by false q t = none_found
