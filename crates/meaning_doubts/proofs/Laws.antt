-- The theorems of specs/Laws.antt that rest on those of specs/ that the edits of must-fail/ make fail. Assumes nothing.
use Prim.Native.Nat.{ℕ, ◌+◌}
use Rattle.std.proofs.Common.{◌∙◌, eqb-true}
use Rattle.std.specs.Prelude.{◌≡◌, refl, Bool, true, false, cond, ◌||◌}
use Rattle.std.proofs.Math.Path.{ap}
use Rattle.std.proofs.Math.Bool.{not}
use mathlib.Core.List.{List, [], ◌∷◌, ◌++◌}
use Rattle.std.proofs.Math.Option.{Option, none, some}
use Rattle.std.proofs.Math.Dec.{eqb}
use Rattle.std.proofs.Math.ListN.{length}
use Rattle.interval_arithmetic.specs.declared.Sign.{Sign}
use Rattle.geom_lines_planes.specs.declared.curve.Line.{Line}
use Rattle.geom_lines_planes.specs.Geometry.{line_point, nearest, effective}
use Rattle.geom_carriers.specs.Queries.{the_line}
use Rattle.geom_queries.specs.Queries.{project_refusal}
use Rattle.geom_signs.specs.Signs.{off_curve_s}
use Rattle.meaning.specs.Lists.{joined, rotated, is_some, is}
use Rattle.meaning.specs.Model.{Model, has, body, region, shell, face, loop, fin, edge, vertex, point_of, curve, surface}
use Rattle.meaning.specs.Walks.{edge_vertices, readable_fin}
use Rattle.meaning.specs.Faults.{of_fin, of_edge, of_vertex, about, fault, only_if, off_curve, curve_test, end_tests, sample_tests, other_ring, carried, fin_geometry, fin_findings, open_findings, loop_findings, checked_from, face_findings, shell_findings, region_findings, layout, manifold_edges, findings, CheckOptions}
use Rattle.meaning_doubts.specs.Doubts.{Doubt, doubt, curve_doubts, end_doubts, sample_doubts, carried_doubts, fin_doubts, loop_doubts, face_doubts, shell_doubts, region_doubts, doubts}
use Rattle.meaning_doubts.specs.Doubts as Doubts
use Rattle.meaning_doubts.specs.Laws.{Same, same_none, same-append, same-joined, same_cond, fault-alone, behind-faults, before-faults, query-same, sign_same, surface-same, samples-same, ring-same, joined-faults, only, fin-faults, open-faults, layout-faults, manifold-edges, on, on-joined, on-cond, on_none, none-joined, cond_both, options}

module _ (m : Model) (i e c s : ℕ) where
  curve-same : (v : ℕ) → Same (curve_doubts m i e c v) (curve_test m e c v)
  unfolding curve_doubts curve_test
  curve-same v =
      let line : Line = the_line (curve m c) in
      let sign : Sign =
      off_curve_s (point_of m v) (line_point line (nearest line (point_of m v))) (effective m.version (vertex m v).tolerance m.precision) (effective m.version (edge m e).tolerance m.precision) in
      query-same (about of_edge e) (project_refusal (curve m c) (point_of m v)) _ _ _ (sign_same sign v (doubt Doubts.off_curve (about of_vertex v) i))

  end_same : (v : ℕ) → Same (end_doubts m i e c s v) (end_tests m e c s v)
  unfolding end_doubts end_tests
  end_same v =
      same_cond (has m.vertices v) _ [] _ []
      (same-append (curve_doubts m i e c v) _ (curve_test m e c v) _ (curve-same v)
      (surface-same m i e c s (point_of m v) (effective m.version (vertex m v).tolerance m.precision) 23 (about of_vertex v) _))
      same_none

carried_same : (m : Model) (n i e : ℕ) (c s : Option ℕ) → Same (carried_doubts m n i e c s) (carried m n e c s)
unfolding carried_doubts carried
carried_same m n i e none s = fault-alone 21 e
carried_same m n i e (some c) none = same_none
carried_same m n i e (some c) (some s) =
    same-append (joined (end_doubts m i e c s) (edge_vertices (edge m e)) ++ sample_doubts m n i e c s) _ (joined (end_tests m e c s) (edge_vertices (edge m e)) ++ sample_tests m n e c s) _
    (same-append (joined (end_doubts m i e c s) (edge_vertices (edge m e))) (sample_doubts m n i e c s) (joined (end_tests m e c s) (edge_vertices (edge m e))) (sample_tests m n e c s)
    (same-joined (end_doubts m i e c s) (end_tests m e c s) (edge_vertices (edge m e)) (end_same m i e c s))
    (samples-same m i e c s n))
    (ring-same (other_ring m e c s) (doubt Doubts.ring (about of_fin i) i))

pub fin-same : (m : Model) (n f i : ℕ) → Same (fin_doubts m n f i) (fin_geometry m n f i)
unfolding fin_doubts fin_geometry
fin-same m n f i = same_cond (readable_fin m i) _ [] _ [] (carried_same m n i (fin m i).edge (edge m (fin m i).edge).curve (face m f).surface) same_none

module _ (m : Model) (g : Bool) (n : ℕ) where
  geometry-same : (f : ℕ) (fins : List ℕ) → Same (on g (joined (fin_doubts m n f) fins)) (cond g (joined (fin_geometry m n f) fins) [])
  geometry-same f fins = same_cond g _ [] _ [] (same-joined (fin_doubts m n f) (fin_geometry m n f) fins (fin-same m n f)) same_none

  fins-same : (f l : ℕ) (fins : List ℕ) → Same (on g (joined (fin_doubts m n f) fins))
      (cond (eqb (length fins) 0) (fault 12 l ∷ []) (joined (fin_findings m l) fins ++ open_findings m fins ++ cond g (joined (fin_geometry m n f) fins) []))
  fins-same f l fins = by (eqb (length fins) 0) (eqb-true (length fins) 0)
    where
      rest : Same (on g (joined (fin_doubts m n f) fins)) (joined (fin_findings m l) fins ++ open_findings m fins ++ cond g (joined (fin_geometry m n f) fins) [])
      rest =
          behind-faults (on g (joined (fin_doubts m n f) fins)) (joined (fin_findings m l) fins ++ open_findings m fins) _
          (behind-faults [] (joined (fin_findings m l) fins) (open_findings m fins) (joined-faults (fin_findings m l) fins (fin-faults m l)) (open-faults m fins (rotated fins)))
          (geometry-same f fins)

      by : (b : Bool) → (b ≡ true → length fins ≡ 0) → Same (on g (joined (fin_doubts m n f) fins)) (cond b (fault 12 l ∷ []) (joined (fin_findings m l) fins ++ open_findings m fins ++ cond g (joined (fin_geometry m n f) fins) []))
      by true e = ap (λ (d : List Doubt). length (on g d)) (none-joined (fin_doubts m n f) fins (e refl)) ∙ ap length (on_none g) ∙ fault-alone 12 l
      by false e = rest

  loop-same : (f l : ℕ) → Same (on g (loop_doubts m n f l)) (loop_findings m (options m g n) f l)
  unfolding loop_doubts loop_findings
  loop-same f l =
      on-cond g (has m.loops l) (joined (fin_doubts m n f) (loop m l).fins) _ (fault 10 f ∷ [])
      (behind-faults (on g (joined (fin_doubts m n f) (loop m l).fins)) (only_if (not (eqb (loop m l).face f)) (fault 11 l)) _ (only (not (eqb (loop m l).face f)) 11 l) (fins-same f l (loop m l).fins))
      (fault-alone 10 f)

  face-same : (s f : ℕ) → Same (on g (face_doubts m n s f)) (face_findings m (options m g n) s f)
  unfolding face_doubts face_findings
  face-same s f =
      ap (λ (d : List Doubt). length (on g d)) (cond_both (has m.faces f) (checked_from (face m f).front s) (joined (loop_doubts m n f) (face m f).loops))
      ∙ on-cond g (has m.faces f) (cond (checked_from (face m f).front s) (joined (loop_doubts m n f) (face m f).loops) []) _ (fault 7 s ∷ [])
      (behind-faults (on g (cond (checked_from (face m f).front s) (joined (loop_doubts m n f) (face m f).loops) [])) (only_if (not (is (face m f).front s || is (face m f).back s)) (fault 8 f)) _ (only (not (is (face m f).front s || is (face m f).back s)) 8 f)
      (on-cond g (checked_from (face m f).front s) (joined (loop_doubts m n f) (face m f).loops) _ []
      (behind-faults (on g (joined (loop_doubts m n f) (face m f).loops)) (only_if (not (is_some (face m f).surface)) (fault 9 f)) _ (only (not (is_some (face m f).surface)) 9 f)
      (on-joined g (loop_doubts m n f) (loop_findings m (options m g n) f) (face m f).loops (loop-same f)))
      same_none))
      (fault-alone 7 s)

  shell-same : (r s : ℕ) → Same (on g (shell_doubts m n s)) (shell_findings m (options m g n) r s)
  unfolding shell_doubts shell_findings
  shell-same r s =
      on-cond g (has m.shells s) (joined (face_doubts m n s) (shell m s).faces) _ (fault 5 r ∷ [])
      (behind-faults (on g (joined (face_doubts m n s) (shell m s).faces)) (only_if (not (eqb (shell m s).region r)) (fault 6 s)) _ (only (not (eqb (shell m s).region r)) 6 s)
      (on-joined g (face_doubts m n s) (face_findings m (options m g n) s) (shell m s).faces (face-same s)))
      (fault-alone 5 r)

  region-same : (b r : ℕ) → Same (on g (region_doubts m n r)) (region_findings m (options m g n) b r)
  unfolding region_doubts region_findings
  region-same b r =
      on-cond g (has m.regions r) (joined (shell_doubts m n) (region m r).shells) _ (fault 3 b ∷ [])
      (behind-faults (on g (joined (shell_doubts m n) (region m r).shells)) (only_if (not (eqb (region m r).body b)) (fault 4 r)) _ (only (not (eqb (region m r).body b)) 4 r)
      (on-joined g (shell_doubts m n) (shell_findings m (options m g n) r) (region m r).shells (shell-same r)))
      (fault-alone 3 b)

pub doubts-same : (m : Model) (o : CheckOptions) (b : ℕ) → Same (doubts m o b) (findings m o b)
unfolding doubts findings
doubts-same m o b =
    before-faults (doubts m o b) (layout m b (body m b).regions ++ joined (region_findings m o b) (body m b).regions) (manifold_edges m b)
    (behind-faults (doubts m o b) (layout m b (body m b).regions) (joined (region_findings m o b) (body m b).regions) (layout-faults m b (body m b).regions)
    (on-joined o.geometry (region_doubts m o.edge_samples) (region_findings m o b) (body m b).regions (region-same m o.geometry o.edge_samples b)))
    (manifold-edges m b)
