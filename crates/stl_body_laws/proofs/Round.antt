-- Surfaces and curves set on a body that was read: what the checker finds then, and what W-209 writes of it: the triangles read, each corner its vertex. Assumes nothing.
use Rattle.std.specs.Prelude.{ℕ, zero, suc, ◌+◌, ◌*◌, ◌<◌, ◌≡◌, true, false, not, eqb, length, get_or}
use Rattle.std.proofs.Common.{arith, ap₂, ◌∙◌, eq-eqb, ne_eqb}
use Rattle.std.proofs.Math.Path.{refl, ap}
use mathlib.Core.List.{List, [], ◌∷◌, ◌++◌, map, append-nil}
use Rattle.std.proofs.Math.Option.{Option, some}
use Rattle.float_vectors.specs.declared.vector.Point3.{Point3}
use Rattle.geom_carriers.specs.declared.Carrier.{Carrier}
use Rattle.meaning.specs.Lists.{run, all, joined, the, is_some}
use Rattle.meaning.specs.Model.{Model, Table, Office, Face, Loop, Vertex, changed, point_of, face, loop}
use Rattle.meaning.specs.Walks.{Ends}
use Rattle.meaning.specs.Faults.{fault, fault_on, findings}
use Rattle.meaning.specs.Inquire.{Side, solid_sides, outward, inward, rim, start_of}
use Rattle.meaning_list_laws.specs.Tests.{and_both}
use Rattle.meaning_list_laws.specs.Lists.{joined-none, joined-cons}
use Rattle.meaning_sheets.specs.Sheets.{side_points}
use Rattle.stl_format.specs.Stl.{Triangle, fan_triangles, polygon_triangles, side_triangles, triangles_of}
use Rattle.stl_body.specs.Read.{known, which_of, all_met, same_point, corners, step, steps_of, Mesh, mesh_of, built, all_finite, nowhere}
use Rattle.stl_body.specs.Laws.{holds}
use Rattle.stl_body.proofs.Laws.{which-same}
use Rattle.stl_body.proofs.Meshes.{all-stored}
use Rattle.stl_body.proofs.Records.{body_new, region-new, shell-new, face-new, loop-new, vertex-new, fin-ends}
use Rattle.stl_body.specs.Sound.{topology}
use Rattle.stl_body_laws.specs.Terms.{taken, turned, shown_by, edge_shown, edges_shown, read_report, dressed, surfaced, without_nine, stored_point, stored_triangle, same_triangles}
use Rattle.stl_body_laws.specs.Met.{run-front, all-over}
use Rattle.stl_body_laws.specs.Walked.{Proper, fins-of}
use Rattle.stl_body_laws.proofs.Uses.{report-is}
use Rattle.stl_body_laws.specs.Dressed.{Free, free-joined, free-cond, free_one, free-if, nine-append, same_ends, set-report}

-- ---- the report without reason 9

no_nine : (l : List ℕ) → without_nine (map (fault 9) l) ≡ []
unfolding without_nine fault_on
no_nine [] = refl
no_nine (i ∷ l) = no_nine l

shown-free : (m : Model) (t : Mesh) (k : ℕ) → Free (edge_shown m t k)
unfolding edge_shown shown_by
shown-free m t k =
    let s = get_or t.edges k (step 0 0) in
    free-cond (eqb (taken s t.steps + taken (turned s) t.steps) 2) _ _ (free-if (not (eqb (taken s t.steps) 1)) 20 (m.edges.used + k) refl) (free_one 19 (m.edges.used + k) refl)

rest-shown : (m : Model) (t : Mesh) → without_nine (read_report m t) ≡ edges_shown m t
unfolding read_report edges_shown
rest-shown m t =
    nine-append (map (fault 9) (run m.faces.used t.triangles)) (joined (edge_shown m t) (run 0 (length t.edges)))
    ∙ ap₂ ◌++◌ (no_nine (run m.faces.used t.triangles)) (free-joined (edge_shown m t) (run 0 (length t.edges)) (shown-free m t)).none

-- ---- one triangle for each of a run is a list of triangles

joined-each : {A B : Type 0} (f : ℕ → List B) (g : A → B) (d : A) (u : ℕ) (l : List A) → ((j : ℕ) → j < length l → f (u + j) ≡ g (get_or l j d) ∷ []) → joined f (run u (length l)) ≡ map g l
joined-each f g d u [] h = unfold run in joined-none f
joined-each f g d u (a ∷ l) h =
    ap (joined f) (run-front u (length l)) ∙ joined-cons f u (run (suc u) (length l))
    ∙ ap₂ ◌++◌ (ap f (let z : u ≡ u + 0 = omega arith in z) ∙ h 0 (omega arith)) (joined-each f g d (suc u) l (λ j b. ap f (let z : suc u + j ≡ u + suc j = omega arith in z) ∙ h (suc j) (omega arith)))

-- ---- the body that was read, with surfaces and curves set

module _ (m : Model) (o : Office) (t : Mesh) (p : Proper t) (curves surfaces : Table Carrier) (along on : ℕ → Option ℕ) where
  abbrev behind : Model
  behind = built m o t

  abbrev after : Model
  after = dressed behind curves surfaces along on

  all-surfaced : ((k : ℕ) → k < t.triangles → is_some (on (m.faces.used + k)) ≡ true) → surfaced after m.bodies.used ≡ true
  unfolding surfaced dressed changed run all
  all-surfaced h =
      rw (body_new m o t, region-new m o t 0, region-new m o t 1, shell-new m o t 0, shell-new m o t 1, all-over (λ f. is_some (on f)) m.faces.used t.triangles h)

  -- what the edges' uses show, and nothing else
  pub set-findings : ((k : ℕ) → k < t.triangles → is_some (on (m.faces.used + k)) ≡ true) → findings after topology m.bodies.used ≡ edges_shown m t
  set-findings h = set-report behind curves surfaces along on m.bodies.used (all-surfaced h) ∙ ap without_nine (report-is m o t p) ∙ rest-shown m t

  -- ---- its sides: the faces as the solid's shell lists them, each looking out of the solid

  abbrev pub new_side : ℕ → Side
  new_side f = record { shell = m.shells.used + 1; face = f }

  pub solid-sides : solid_sides after m.bodies.used ≡ map new_side (run m.faces.used t.triangles)
  unfolding solid_sides dressed joined run
  solid-sides = rw (body_new m o t, region-new m o t 0, region-new m o t 1, shell-new m o t 1, append-nil (map new_side (run m.faces.used t.triangles)), append-nil (map new_side (run m.faces.used t.triangles)))

  pub looks-out : (j : ℕ) → outward after (new_side (m.faces.used + j)) ≡ true
  unfolding dressed changed
  looks-out j = rw (face-new m o t j) (eq-eqb (m.shells.used + 1) (m.shells.used + 1) refl)

  pub not_in : (j : ℕ) → inward after (new_side (m.faces.used + j)) ≡ false
  unfolding dressed changed
  not_in j = rw (face-new m o t j) (ne_eqb m.shells.used (m.shells.used + 1) (λ q. omega arith))

  pub its-rim : (j : ℕ) → rim after (m.faces.used + j) ≡ (m.fins.used + (3 * j + 0)) ∷ (m.fins.used + (3 * j + 1)) ∷ (m.fins.used + (3 * j + 2)) ∷ []
  unfolding dressed changed
  its-rim j = ap (λ (f : Face). (loop behind (get_or f.loops 0 0)).fins) (face-new m o t j) ∙ ap (λ (d : Loop). d.fins) (loop-new m o t j) ∙ fins-of m j

  -- where a fin starts
  pub its-start : (k : ℕ) → k < 3 * t.triangles → start_of after (m.fins.used + k) ≡ some (m.vertices.used + (get_or t.steps k (step 0 0)).from)
  its-start k h = ap (λ (d : Ends). d.start) (same_ends behind curves surfaces along on (m.fins.used + k) ∙ fin-ends m o t p.ranged k h)

  -- the vertex there
  abbrev pub point_at : ℕ → Point3
  point_at k = get_or t.points (get_or t.steps k (step 0 0)).from nowhere

  its-point : (k : ℕ) → k < 3 * t.triangles → point_of after (the (start_of after (m.fins.used + k))) ≡ point_at k
  unfolding dressed
  its-point k h = ap (λ s. point_of after (the s)) (its-start k h) ∙ ap (λ (v : Vertex). v.point) (vertex-new m o t (get_or t.steps k (step 0 0)).from)

  pub its-points : (j : ℕ) → j < t.triangles → side_points after (new_side (m.faces.used + j)) ≡ point_at (3 * j + 0) ∷ point_at (3 * j + 1) ∷ point_at (3 * j + 2) ∷ []
  unfolding side_points
  its-points j h = rw (not_in j, its-rim j, its-point (3 * j + 0) (omega arith), its-point (3 * j + 1) (omega arith), its-point (3 * j + 2) (omega arith))

  its-triangle : (j : ℕ) → j < t.triangles
      → side_triangles after (new_side (m.faces.used + j)) ≡ record { a = point_at (3 * j + 0); b = point_at (3 * j + 1); c = point_at (3 * j + 2) } ∷ []
  unfolding side_triangles polygon_triangles fan_triangles
  its-triangle j h = ap polygon_triangles (its-points j h)

sides-joined : (n : Model) (s : ℕ → Side) (l : List ℕ) → triangles_of n (map s l) ≡ joined (λ f. side_triangles n (s f)) l
unfolding triangles_of joined
sides-joined n s [] = refl
sides-joined n s (f ∷ l) = ap (λ r. side_triangles n (s f) ++ r) (sides-joined n s l)

-- ---- the steps of a triangle start at its corners

abbrev flat : Triangle
flat = record { a = nowhere; b = nowhere; c = nowhere }

record Cornered (points : List Point3) (l : List Triangle) (j : ℕ) : Type 0 where
  first : (get_or (steps_of points l) (3 * j + 0) (step 0 0)).from ≡ which_of same_point (get_or l j flat).a points
  second : (get_or (steps_of points l) (3 * j + 1) (step 0 0)).from ≡ which_of same_point (get_or l j flat).b points
  third : (get_or (steps_of points l) (3 * j + 2) (step 0 0)).from ≡ which_of same_point (get_or l j flat).c points

cornered : (points : List Point3) (l : List Triangle) (j : ℕ) → j < length l → Cornered points l j
unfolding steps_of
cornered points [] j h = absurd (omega arith)
cornered points (t ∷ l) zero h = record { first = refl; second = refl; third = refl }
cornered points (t ∷ l) (suc j) h = let r = cornered points l j (omega arith) in record { first = rw (three 0) r.first; second = rw (three 1) r.second; third = rw (three 2) r.third }
  where
    three : (q : ℕ) → 3 * suc j + q ≡ suc (suc (suc (3 * j + q)))
    three q = omega arith

-- ---- what is written of the body that was read of l

module _ (m : Model) (o : Office) (l : List Triangle) (p : Proper (mesh_of l)) (curves surfaces : Table Carrier) (along on : ℕ → Option ℕ) where
  abbrev set : Model
  set = dressed (built m o (mesh_of l)) curves surfaces along on

  -- "writing (W-209's triangles) what was read gives the same triangles": in their order, each from its first corner, each corner as it was first met
  pub written : triangles_of set (solid_sides set m.bodies.used) ≡ map (stored_triangle (mesh_of l).points) l
  written =
      ap (triangles_of set) (solid-sides m o (mesh_of l) p curves surfaces along on)
      ∙ sides-joined set (new_side m o (mesh_of l) p curves surfaces along on) (run m.faces.used (mesh_of l).triangles)
      ∙ ap (λ n. joined (λ f. side_triangles set (new_side m o (mesh_of l) p curves surfaces along on f)) (run m.faces.used n)) how-many
      ∙ joined-each (λ f. side_triangles set (new_side m o (mesh_of l) p curves surfaces along on f)) (stored_triangle (mesh_of l).points) flat m.faces.used l each
    where
      how-many : (mesh_of l).triangles ≡ length l
      how-many = unfold mesh_of in refl

      of_corners : Point3 → Point3 → Point3 → List Triangle
      of_corners a b c = record { a = a; b = b; c = c } ∷ []

      at : ℕ → Point3
      at v = get_or (mesh_of l).points v nowhere

      steps-are : (j : ℕ) → j < length l → Cornered (mesh_of l).points l j
      steps-are j b = cornered (mesh_of l).points l j b

      each : (j : ℕ) → j < length l → side_triangles set (new_side m o (mesh_of l) p curves surfaces along on (m.faces.used + j)) ≡ stored_triangle (mesh_of l).points (get_or l j flat) ∷ []
      each j b =
          its-triangle m o (mesh_of l) p curves surfaces along on j (rw how-many b)
          ∙ (unfold mesh_of stored_triangle stored_point in rw ((steps-are j b).first, (steps-are j b).second, (steps-are j b).third))

-- and so the same by value
stored_same : (points : List Point3) (l : List Triangle) → holds (λ q. known same_point q points) (corners l) ≡ true → same_triangles l (map (stored_triangle points) l) ≡ true
unfolding holds corners same_triangles stored_triangle stored_point
stored_same points [] h = refl
stored_same points (t ∷ l) h =
    let first = and_both (known same_point t.a points) _ h in
    let second = and_both (known same_point t.b points) _ first.1 in
    let third = and_both (known same_point t.c points) _ second.1 in
    rw (which-same same_point t.a points nowhere first.0, which-same same_point t.b points nowhere second.0, which-same same_point t.c points nowhere third.0) (stored_same points l third.1)

pub stored-by-value : (l : List Triangle) → all_finite (corners l) ≡ true → same_triangles l (map (stored_triangle (mesh_of l).points) l) ≡ true
unfolding mesh_of
stored-by-value l h = stored_same (all_met same_point (corners l)) l (all-stored l h)
