-- How many findings there can be: fewer than numbers, since every list of a readable model has its limit. Assumes nothing.
use Prim.Native.Nat.{ℕ, zero, suc, ◌+◌, ◌*◌, ◌/◌, ◌%◌, ◌≤◌, ◌<◌}
use native.Mathlib.Omega.{arith}
use Rattle.std.proofs.Common.{le_trans, mul-suc, mul-le-mul_left, sym, ap, ◌∙◌, ltb-true, eqb-true}
use Rattle.std.specs.Prelude.{◌≡◌, refl, Bool, true, false, ◌&&◌, ◌||◌, get_or}
use Rattle.std.proofs.Math.Path.{subst}
use Rattle.std.proofs.Math.Bool.{not, cond}
use mathlib.Core.List.{List, [], ◌∷◌, ◌++◌}
use Rattle.std.proofs.Math.Option.{Option, none, some}
use Rattle.std.proofs.Math.Dec.{eqb}
use Rattle.std.specs.Float.Ieee.{Float, lt}
use Rattle.std.proofs.Math.ListN.{length, length-append}
use Rattle.std.proofs.lemmas.List.{length-map}
use Rattle.std.proofs.lemmas.Bool.{eqb-false}
use Rattle.interval_arithmetic.specs.declared.Sign.{Sign}
use Rattle.interval_arithmetic.specs.declared.Sign.TheVariants.{Negative, Zero, Positive, Unresolved}
use Rattle.float_vectors.specs.declared.vector.Point3.{Point3}
use Rattle.geom_lines_planes.specs.declared.curve.Line.{Line}
use Rattle.geom_lines_planes.specs.Geometry.{line_point, nearest, plane_distance, effective}
use Rattle.geom_carriers.specs.Queries.{the_line, the_plane}
use Rattle.geom_signs.specs.Signs.{off_curve_s}
use Rattle.meaning.specs.Lists.{run, the, member, joined, rotated, is_some, is, listed, meet, meets, firsts}
use Rattle.meaning.specs.Model.{Model, has, body, region, shell, face, loop, fin, edge, vertex, point_of, curve, surface}
use Rattle.meaning.specs.Walks.{edge_vertices, readable_fin, faces_refusal, edge_walk, edges_refusal}
use Rattle.geom_lines_planes.specs.Refuse.{◌unless◌}
use Rattle.meaning.specs.Inquire.{is_solid}
use Rattle.meaning.specs.Faults.{of_vertex, Asked, about, Finding, skipped, projected, sample_at, other_ring, same_sense, meets_next, only_if, fault, fault_on, geometry_error, off_curve, curve_test, point_on_surface, end_tests, sample_test, sample_tests, carried, fin_geometry, CheckOptions, fin_findings, open_at, opens, loop_findings, checked_from, face_findings, shell_findings, region_findings, layout, manifold, manifold_edge, manifold_edges, findings}
use Rattle.meaning_list_laws.specs.Lists.{length_run}
use Rattle.meaning_list_laws.specs.Tests.{and_both, then-zero, unless-zero}
use Rattle.memory_layout.specs.Layout.{word, words_of}
use Rattle.memory_layout.specs.Decode.{decode}
use Rattle.memory_layout.specs.Entries.{list_tables, list_limits, list_of}
use Rattle.memory_layout.specs.Fit.{Lists}
use Rattle.walk_sources.specs.Sources.{fin_edge, end_of, part_of, Source, Sources}
use Rattle.walk_sources.specs.Laws.{list-short, part-ends, part-fins, part-list, source-kind, end_short}
use Rattle.walk_visits.specs.Visits.{ids_of}
use Rattle.walk_paths.specs.Paths.{edge_path, edge_list, body_followed, faces_there, loops_followed, Looped}
use Rattle.walk_paths.specs.Laws.{edge-sources, edge-path-short, shelled-of, faced-of, looped-of}
use Rattle.walk_answers.specs.Laws.{edge-list, edges-refusal, faces-refusal}
use Rattle.memory_layout.proofs.Laws.{listed_le}

-- ---- lists of findings

only-le : (b : Bool) (x : Finding) → length (only_if b x) ≤ 1
only-le true x = omega arith
only-le false x = omega arith

cond-le : (b : Bool) (x y : List Finding) (n : ℕ) → length x ≤ n → length y ≤ n → length (cond b x y) ≤ n
cond-le true x y n h g = h
cond-le false x y n h g = g

both-le : (x y : List Finding) (n k : ℕ) → length x ≤ n → length y ≤ k → length (x ++ y) ≤ n + k
both-le x y n k h g = omega (arith, length-append x y)

pub joined-le : {A : Type 0} (f : ℕ → List A) (n : ℕ) (l : List ℕ) → ((i : ℕ) → length (f i) ≤ n) → length (joined f l) ≤ n * length l
unfolding joined
joined-le f n [] h = omega arith
joined-le f n (y ∷ l) h = omega (arith, length-append (f y) (joined f l), h y, joined-le f n l h, mul-suc n (length l))

joined-le-at : {A : Type 0} (f : ℕ → List A) (n : ℕ) (l : List ℕ) → ((p : ℕ) → p < length l → length (f (get_or l p 0)) ≤ n) → length (joined f l) ≤ n * length l
unfolding joined
joined-le-at f n [] h = omega arith
joined-le-at f n (y ∷ l) h =
    omega (arith, length-append (f y) (joined f l), h 0 (omega arith), joined-le-at f n l (λ p q. h (suc p) (omega arith)), mul-suc n (length l))

-- as many lists as a list's limit
many : {A : Type 0} (f : ℕ → List A) (n k : ℕ) (l : List ℕ) → ((i : ℕ) → length (f i) ≤ n) → length l ≤ k → length (joined f l) ≤ n * k
many f n k l h g = le_trans (joined-le f n l h) (mul-le-mul_left n g)

-- ---- geometry

error-le : (a : Asked) (n : ℕ) (l : List Finding) → length l ≤ 1 → length (geometry_error a n l) ≤ 1
unfolding geometry_error
error-le a zero l h = h
error-le a (suc n) l h = cond-le (eqb n 6) _ _ 1 (omega arith) (cond-le (eqb n 1) _ _ 1 (omega arith) (omega arith))

off-le : (s : Sign) (v : ℕ) → length (off_curve s v) ≤ 1
off-le Negative v = omega arith
off-le Zero v = omega arith
off-le Positive v = omega arith
off-le Unresolved v = omega arith

module _ (m : Model) where
  curve-le : (e c v : ℕ) → length (curve_test m e c v) ≤ 1
  unfolding curve_test
  curve-le e c v =
      let p : Point3 = point_of m v in
      let line : Line = the_line (curve m c) in
      error-le _ _ _ (off-le (off_curve_s p (line_point line (nearest line p)) (effective m.version (vertex m v).tolerance m.precision) (effective m.version (edge m e).tolerance m.precision)) v)

  surface-le : (s : ℕ) (p : Point3) (t : Float) (n : ℕ) (a : Asked) → length (point_on_surface m s p t n a) ≤ 1
  unfolding point_on_surface
  surface-le s p t n a = error-le a _ _ (only-le (lt t (plane_distance (the_plane (surface m s)) p)) (fault_on n a))

  end-le : (e c s v : ℕ) → length (end_tests m e c s v) ≤ 2
  unfolding end_tests
  end-le e c s v = cond-le (has m.vertices v) _ _ 2 (both-le (curve_test m e c v) (point_on_surface m s (point_of m v) (effective m.version (vertex m v).tolerance m.precision) 23 (about of_vertex v)) 1 1 (curve-le e c v) (surface-le s (point_of m v) (effective m.version (vertex m v).tolerance m.precision) 23 (about of_vertex v))) (omega arith)

  ends-two : (e : ℕ) → length (edge_vertices (edge m e)) ≤ 2
  ends-two e = by (edge m e).start (edge m e).end
    where
      by : (a b : Option ℕ) → length (listed a ++ listed b) ≤ 2
      by none none = omega arith
      by none (some y) = omega arith
      by (some x) none = omega arith
      by (some x) (some y) = omega arith

  sample-le : (e c s : ℕ) (t : Float) → length (sample_test m e c s t) ≤ 1
  unfolding sample_test
  sample-le e c s t = error-le _ _ _ (surface-le s _ _ 24 _)

  samples-le : (n e c s : ℕ) → n ≤ 255 → length (sample_tests m n e c s) ≤ 255
  unfolding sample_tests
  samples-le n e c s h =
      let t0 : Float = nearest (the_line (curve m c)) (point_of m (the (edge m e).start)) in
      let t1 : Float = nearest (the_line (curve m c)) (point_of m (the (edge m e).end)) in
      cond-le (projected m c (edge m e).start && projected m c (edge m e).end) _ _ 255
      (many (λ k. sample_test m e c s (sample_at t0 t1 n k)) 1 255 (run 1 n) (λ k. sample-le e c s (sample_at t0 t1 n k)) (omega (arith, length_run 1 n)))
      (omega arith)

  carried-le : (n e : ℕ) (c s : Option ℕ) → n ≤ 255 → length (carried m n e c s) ≤ 260
  unfolding carried
  carried-le n e none s h = omega arith
  carried-le n e (some c) none h = omega arith
  carried-le n e (some c) (some s) h =
      let ends : List Finding = joined (end_tests m e c s) (edge_vertices (edge m e)) in
      let four : length ends ≤ 4 = many (end_tests m e c s) 2 2 (edge_vertices (edge m e)) (end-le e c s) (ends-two e) in
      both-le (ends ++ sample_tests m n e c s) (only_if (other_ring m e c s) skipped) 259 1 (both-le ends (sample_tests m n e c s) 4 255 four (samples-le n e c s h)) (only-le (other_ring m e c s) skipped)

  geometry-le : (n f i : ℕ) → n ≤ 255 → length (fin_geometry m n f i) ≤ 260
  unfolding fin_geometry
  geometry-le n f i h =
      cond-le (readable_fin m i) (carried m n (fin m i).edge (edge m (fin m i).edge).curve (face m f).surface) [] 260 (carried-le n (fin m i).edge (edge m (fin m i).edge).curve (face m f).surface h) (omega arith)

  -- ---- topology

  fin-le : (l i : ℕ) → length (fin_findings m l i) ≤ 4
  unfolding fin_findings
  fin-le l i =
      let e : ℕ = (fin m i).edge in
      let gone : ℕ → List Finding = λ v. only_if (not (has m.vertices v)) (fault 17 e) in
      let ends : List Finding = joined gone (edge_vertices (edge m e)) in
      let lost : List Finding = only_if (not (member i (edge m e).fins)) (fault 16 e) in
      let named : List Finding = cond (has m.edges e) (lost ++ ends) (fault 15 i ∷ []) in
      let owned : List Finding = only_if (not (eqb (fin m i).owner l)) (fault 14 i) in
      let two : length ends ≤ 2 = many gone 1 2 (edge_vertices (edge m e)) (λ v. only-le (not (has m.vertices v)) (fault 17 e)) (ends-two e) in
      let three : length named ≤ 3 = cond-le (has m.edges e) (lost ++ ends) (fault 15 i ∷ []) 3 (both-le lost ends 1 2 (only-le (not (member i (edge m e).fins)) (fault 16 e)) two) (omega arith) in
      cond-le (has m.fins i) (owned ++ named) (fault 13 l ∷ []) 4 (both-le owned named 1 3 (only-le (not (eqb (fin m i).owner l)) (fault 14 i)) three) (omega arith)

  opens-le : (a b : List ℕ) → length (opens m a b) ≤ length a
  unfolding opens
  opens-le [] b = omega arith
  opens-le (i ∷ a) [] = omega arith
  opens-le (i ∷ a) (j ∷ b) =
      let one : length (open_at m i j) ≤ 1 = only-le (readable_fin m i && readable_fin m j && not (meets_next m i j)) (fault 18 i) in
      omega (arith, length-append (open_at m i j) (opens m a b), opens-le a b)

  manifold-le : (e : ℕ) (l : List ℕ) → length (manifold m e l) ≤ 1
  unfolding manifold
  manifold-le e [] = omega arith
  manifold-le e (i ∷ []) = omega arith
  manifold-le e (i ∷ j ∷ []) = only-le (has m.fins i && has m.fins j && same_sense (fin m i).sense (fin m j).sense) (fault 20 e)
  manifold-le e (i ∷ j ∷ k ∷ l) = omega arith

  edge-le : (e : ℕ) → length (manifold_edge m e) ≤ 1
  unfolding manifold_edge
  edge-le e = cond-le (has m.edges e) _ _ 1 (manifold-le e (edge m e).fins) (omega arith)

  layout-le : (b : ℕ) (l : List ℕ) → length (layout m b l) ≤ 1
  layout-le b [] = omega arith
  layout-le b (r ∷ l) = only-le (has m.regions r && (region m r).solid) (fault 2 b)

-- a list that is looked at only where its record is there
cond-if : (b : Bool) (x y : List Finding) (n : ℕ) → (b ≡ true → length x ≤ n) → length y ≤ n → length (cond b x y) ≤ n
cond-if true x y n h g = h refl
cond-if false x y n h g = g

-- ---- first meetings

meet-le : (s : List ℕ) (y : ℕ) → length (meet s y) ≤ length s + 1
unfolding meet
meet-le s y = by (member y s)
  where
    by : (b : Bool) → length (cond b s (s ++ (y ∷ []))) ≤ length s + 1
    by true = omega arith
    by false = omega (arith, length-append s (y ∷ []))

meets-le : (s l : List ℕ) → length (meets s l) ≤ length s + length l
unfolding meets
meets-le s [] = omega arith
meets-le s (y ∷ l) = omega (arith, meets-le (meet s y) l, meet-le s y)

module _ (room w : List ℕ) (lists : Lists room w) where
  part-le : (s : ℕ) → Source room w s → length (part_of room w s) ≤ 1024
  part-le s k = by (eqb (s % 8) 7) (eqb (s % 8) 6) refl refl
    where
      long : length (list_of room w (s % 8) (s / 8)) ≤ 1024
      long = list-short room w (s % 8) (s / 8) lists (source-kind room w s) k.slot

      by : (a b : Bool) → eqb (s % 8) 7 ≡ a → eqb (s % 8) 6 ≡ b → length (part_of room w s) ≤ 1024
      by true b p q =
          let e : List ℕ = words_of room w 6 (s / 8) in
          let n : length (part_of room w s) ≡ length (end_of (word e 0) (word e 1) ++ end_of (word e 2) (word e 3)) = ap length (part-ends room w s (eqb-true (s % 8) 7 p)) in
          omega (arith, length-append (end_of (word e 0) (word e 1)) (end_of (word e 2) (word e 3)), end_short (word e 0) (word e 1), end_short (word e 2) (word e 3))
      by false true p q =
          let n : length (part_of room w s) ≡ length (list_of room w (s % 8) (s / 8)) = ap length (part-fins room w s (eqb-true (s % 8) 6 q)) ∙ length-map (list_of room w (s % 8) (s / 8)) (fin_edge room w) in
          omega (arith, long)
      by false false p q =
          let n : length (part_of room w s) ≡ length (list_of room w (s % 8) (s / 8)) = ap length (part-list room w s (eqb-false (s % 8) 7 p) (eqb-false (s % 8) 6 q)) in
          omega (arith, long)

  ids-le : (path : List ℕ) → Sources room w path → length path ≤ 8448 → length (firsts (ids_of room w path)) ≤ 8650752
  ids-le path k h =
      omega (arith, meets-le [] (ids_of room w path), joined-le-at (part_of room w) 1024 path (λ p q. part-le (get_or path p 0) (k.at p q)))

  module _ (x : List Float) where
    abbrev m : Model
    m = decode room w x

    looped-if : (b : ℕ) → edges_refusal m b ≡ 0 → Looped room w b
    looped-if b e =
        let p = then-zero (faces_refusal m b) (2 unless (faces_there room w b && loops_followed room w b)) (sym (edges-refusal room w x b) ∙ e) in
        let q = and_both (faces_there room w b) (loops_followed room w b) (unless-zero 1 _ p.1) in
        let s = shelled-of room w b (unless-zero 1 (body_followed room w b) (sym (faces-refusal room w x b) ∙ p.0)) in
        looped-of room w b (faced-of room w b s q.0) q.1

    walk-le : (b : ℕ) → Looped room w b → length (edge_walk m b) ≤ 8650752
    unfolding edge_list
    walk-le b k =
        subst (λ l. length l ≤ 8650752) (sym (edge-list room w x b)) (ids-le (edge_path room w b) (edge-sources room w b lists k) (edge-path-short room w b lists k))

    manifolds-le : (b : ℕ) → length (manifold_edges m b) ≤ 8650752
    unfolding manifold_edges
    manifolds-le b =
        cond-if (is_solid (body m b).kind && eqb (edges_refusal m b) 0) _ _ 8650752
        (λ e. many (manifold_edge m) 1 8650752 (edge_walk m b) (edge-le m) (walk-le b (looped-if b (eqb-true (edges_refusal m b) 0 (and_both (is_solid (body m b).kind) (eqb (edges_refusal m b) 0) e).1))))
        (omega arith)

    module _ (o : CheckOptions) (few : o.edge_samples ≤ 255) where
      fins-le : (f l : ℕ) (fins : List ℕ) → length fins ≤ 1024
          → length (joined (fin_findings m l) fins ++ opens m fins (rotated fins) ++ cond o.geometry (joined (fin_geometry m o.edge_samples f) fins) []) ≤ 271360
      fins-le f l fins h =
          let each : List Finding = joined (fin_findings m l) fins in
          let next : List Finding = opens m fins (rotated fins) in
          let on : List Finding = cond o.geometry (joined (fin_geometry m o.edge_samples f) fins) [] in
          let first : length (each ++ next) ≤ 5120 = both-le each next 4096 1024 (many (fin_findings m l) 4 1024 fins (fin-le m l) h) (le_trans (opens-le m fins (rotated fins)) h) in
          let last : length on ≤ 266240 =
          cond-le o.geometry (joined (fin_geometry m o.edge_samples f) fins) [] 266240 (many (fin_geometry m o.edge_samples f) 260 1024 fins (λ i. geometry-le m o.edge_samples f i few) h) (omega arith) in
          both-le (each ++ next) on 5120 266240 first last

      -- a list of a record that is there
      short : (j i : ℕ) → j < 8 → i < word w (word list_tables j) → length (list_of room w j i) ≤ word list_limits j
      short j i h g = listed_le room w j i lists h g

      loop-le : (f l : ℕ) → length (loop_findings m o f l) ≤ 271361
      unfolding loop_findings decode list_of
      loop-le f l =
          let fins : List ℕ = (loop m l).fins in
          let wrong : List Finding = only_if (not (eqb (loop m l).face f)) (fault 11 l) in
          let all : List Finding = joined (fin_findings m l) fins ++ opens m fins (rotated fins) ++ cond o.geometry (joined (fin_geometry m o.edge_samples f) fins) [] in
          cond-if (has m.loops l) (wrong ++ cond (eqb (length fins) 0) (fault 12 l ∷ []) all) (fault 10 f ∷ []) 271361
          (λ e. both-le wrong (cond (eqb (length fins) 0) (fault 12 l ∷ []) all) 1 271360 (only-le (not (eqb (loop m l).face f)) (fault 11 l))
          (cond-le (eqb (length fins) 0) (fault 12 l ∷ []) all 271360 (omega arith) (fins-le f l fins (short 6 l (omega arith) (ltb-true l (word w 4) e)))))
          (omega arith)

      face-le : (s f : ℕ) → length (face_findings m o s f) ≤ 4341778
      unfolding face_findings decode list_of
      face-le s f =
          let wrong : List Finding = only_if (not (is (face m f).front s || is (face m f).back s)) (fault 8 f) in
          let bare : List Finding = only_if (not (is_some (face m f).surface)) (fault 9 f) in
          let all : List Finding = joined (loop_findings m o f) (face m f).loops in
          cond-if (has m.faces f) (wrong ++ cond (checked_from (face m f).front s) (bare ++ all) []) (fault 7 s ∷ []) 4341778
          (λ e. both-le wrong (cond (checked_from (face m f).front s) (bare ++ all) []) 1 4341777 (only-le (not (is (face m f).front s || is (face m f).back s)) (fault 8 f))
          (cond-le (checked_from (face m f).front s) (bare ++ all) [] 4341777
          (both-le bare all 1 4341776 (only-le (not (is_some (face m f).surface)) (fault 9 f)) (many (loop_findings m o f) 271361 16 (face m f).loops (loop-le f) (short 5 f (omega arith) (ltb-true f (word w 3) e))))
          (omega arith)))
          (omega arith)

      shell-le : (r s : ℕ) → length (shell_findings m o r s) ≤ 2222990337
      unfolding shell_findings decode list_of
      shell-le r s =
          let wrong : List Finding = only_if (not (eqb (shell m s).region r)) (fault 6 s) in
          let all : List Finding = joined (face_findings m o s) (shell m s).faces in
          cond-if (has m.shells s) (wrong ++ all) (fault 5 r ∷ []) 2222990337
          (λ e. both-le wrong all 1 2222990336 (only-le (not (eqb (shell m s).region r)) (fault 6 s)) (many (face_findings m o s) 4341778 512 (shell m s).faces (face-le s) (short 2 s (omega arith) (ltb-true s (word w 2) e))))
          (omega arith)

      region-le : (b r : ℕ) → length (region_findings m o b r) ≤ 35567845393
      unfolding region_findings decode list_of
      region-le b r =
          let wrong : List Finding = only_if (not (eqb (region m r).body b)) (fault 4 r) in
          let all : List Finding = joined (shell_findings m o r) (region m r).shells in
          cond-if (has m.regions r) (wrong ++ all) (fault 3 b ∷ []) 35567845393
          (λ e. both-le wrong all 1 35567845392 (only-le (not (eqb (region m r).body b)) (fault 4 r)) (many (shell_findings m o r) 2222990337 16 (region m r).shells (shell-le r) (short 1 r (omega arith) (ltb-true r (word w 1) e))))
          (omega arith)

      pub findings-le : (b : ℕ) → b < word w 0 → length (findings m o b) ≤ 569094177041
      unfolding findings decode list_of
      findings-le b h =
          let first : List Finding = layout m b (body m b).regions in
          let all : List Finding = joined (region_findings m o b) (body m b).regions in
          both-le (first ++ all) (manifold_edges m b) 569085526289 8650752
          (both-le first all 1 569085526288 (layout-le m b (body m b).regions) (many (region_findings m o b) 35567845393 16 (body m b).regions (region-le b) (short 0 b (omega arith) h)))
          (manifolds-le b)
