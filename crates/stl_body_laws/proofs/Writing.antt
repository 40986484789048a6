-- W-209 of a body that was read: where planes and lines are set, neither its volume nor its writing is refused. Assumes nothing.
use Prim.Native.Nat.{ℕ, zero, suc, ◌+◌, ◌*◌, ◌<◌}
use native.Mathlib.Omega.{arith}
use Rattle.std.specs.Prelude.{◌≡◌, ◌&&◌, List, [], ◌∷◌, map, get_or, Float}
use Rattle.std.proofs.Math.Path.{refl, ap}
use Rattle.std.proofs.Common.{◌∙◌}
use Rattle.std.proofs.Math.Bool.{true}
use Rattle.std.proofs.lemmas.Bool.{false≢true}
use Rattle.std.proofs.Math.Option.{Option}
use Rattle.std.proofs.Math.ListN.{length, length-map}
use borrow.Author.Tests.{lt-ltb, ne_eqb}
use Rattle.std.specs.Float.{nan, inf, fin, binary32}
use Rattle.std.specs.Float.Ieee.{fits}
use Rattle.std.specs.Float.Ieee.Scale.{finite}
use Rattle.float_narrow.specs.Narrow.{narrow}
use Rattle.float_vectors.specs.declared.vector.Point3.{Point3}
use Rattle.float_vectors.specs.Space.{finite_point}
use Rattle.geom_carriers.specs.declared.Carrier.{Carrier}
use Rattle.meaning.specs.Lists.{run}
use Rattle.meaning.specs.Model.{Model, Table, Office, Face, Body, changed, extended, has, body, face}
use Rattle.meaning.specs.Refuse.{first_of}
use Rattle.meaning.specs.Inquire.{flat_face, straight_edge, require_polyhedral, is_solid, Side, start_refusal, side_refusal, sides_refusal, volume_refusal}
use Rattle.meaning_list_laws.specs.Tests.{and_both, first_of-none, first_of-snoc}
use Rattle.meaning_list_laws.specs.Lists.{length_run}
use Rattle.meaning_sheets.specs.Sheets.{side_points}
use Rattle.stl_format.specs.Stl.{Triangle, narrow_point, narrow_points, narrow_sides, stl_refusal}
use Rattle.stl_body.specs.Read.{same_point, corners, step, Mesh, mesh_of, built, all_finite, nowhere}
use Rattle.stl_body.specs.Laws.{holds}
use Rattle.stl_body.proofs.Laws.{holds-nth, met_holds}
use Rattle.stl_body.proofs.Meshes.{ends-both}
use Rattle.stl_body.proofs.Records.{body_new, face-new}
use Rattle.stl_body_laws.specs.Terms.{dressed}
use Rattle.stl_body_laws.specs.Met.{run-front}
use Rattle.stl_body_laws.specs.Walked.{Proper, faces-walked, edges-walked, faces-followed, edges-followed}
use Rattle.stl_body_laws.specs.Dressed.{same-faces, same-walk, same-faces-refusal, same-refusal}
use Rattle.stl_body_laws.proofs.Round.{new_side, solid-sides, looks-out, not_in, its-rim, its-start, point_at, its-points}
use Rattle.stl_body_laws.proofs.Zeros.{fit_point}

first_of-run : (f : ℕ → ℕ) (u n : ℕ) → ((j : ℕ) → j < n → f (u + j) ≡ 0) → first_of f (run u n) ≡ 0
unfolding run
first_of-run f u zero h = first_of-none f
first_of-run f u (suc n) h = rw (first_of-snoc f (run u n) (u + n), first_of-run f u n (λ j b. h j (omega arith)), h n (omega arith))

module _ (n : Model) (s : ℕ → Side) where
  sides-run : (u k : ℕ) → ((j : ℕ) → j < k → side_refusal n (s (u + j)) ≡ 0) → sides_refusal n (map s (run u k)) ≡ 0
  unfolding sides_refusal
  sides-run u zero h = unfold run in refl
  sides-run u (suc k) h =
      let rest = sides-run (suc u) k (λ j b. ap (λ i. side_refusal n (s i)) (let z : suc u + j ≡ u + suc j = omega arith in z) ∙ h (suc j) (omega arith)) in
      let first : side_refusal n (s u) ≡ 0 = ap (λ i. side_refusal n (s i)) (let z : u ≡ u + 0 = omega arith in z) ∙ h 0 (omega arith) in
      rw (run-front u k, first) rest

  narrow-run : (u k : ℕ) → ((j : ℕ) → j < k → narrow_points (side_points n (s (u + j))) ≡ true) → narrow_sides n (map s (run u k)) ≡ true
  unfolding narrow_sides
  narrow-run u zero h = unfold run in refl
  narrow-run u (suc k) h =
      let rest = narrow-run (suc u) k (λ j b. ap (λ i. narrow_points (side_points n (s i))) (let z : suc u + j ≡ u + suc j = omega arith in z) ∙ h (suc j) (omega arith)) in
      let first : narrow_points (side_points n (s u)) ≡ true = ap (λ i. narrow_points (side_points n (s i))) (let z : u ≡ u + 0 = omega arith in z) ∙ h 0 (omega arith) in
      rw (run-front u k, first) rest

module _ (m : Model) (o : Office) (t : Mesh) (p : Proper t) (curves surfaces : Table Carrier) (along on : ℕ → Option ℕ) where
  abbrev behind : Model
  behind = built m o t

  abbrev after : Model
  after = dressed behind curves surfaces along on

  abbrev new_sides : ℕ → Side
  new_sides = new_side m o t p curves surfaces along on

  start-there : (k : ℕ) → k < 3 * t.triangles → start_refusal after (m.fins.used + k) ≡ 0
  start-there k h =
      let ends = ends-both (length t.points) (get_or t.steps k (step 0 0)) (p.ranged.step-ends k h) in
      rw (its-start m o t p curves surfaces along on k h, has-vertex (get_or t.steps k (step 0 0)).from ends.0)
    where
      has-vertex : (v : ℕ) → v < length t.points → has after.vertices (m.vertices.used + v) ≡ true
      has-vertex v b = unfold dressed built extended in lt-ltb (m.vertices.used + v) (m.vertices.used + length t.points) (omega arith)

  one-loop : (j : ℕ) → length (face after (m.faces.used + j)).loops ≡ 1
  unfolding dressed changed
  one-loop j = ap (λ (f : Face). length f.loops) (face-new m o t j)

  side-there : (j : ℕ) → j < t.triangles → side_refusal after (new_sides (m.faces.used + j)) ≡ 0
  unfolding side_refusal first_of
  side-there j h =
      rw (
        looks-out m o t p curves surfaces along on j,
        not_in m o t p curves surfaces along on j,
        one-loop j,
        its-rim m o t p curves surfaces along on j,
        start-there (3 * j + 0) (omega arith),
        start-there (3 * j + 1) (omega arith),
        start-there (3 * j + 2) (omega arith),
      )

  -- a plane for each face and a line for each edge: the tests of 01, "Both first walk faces .., then edges"
  pub record Planes : Type 0 where
    pub flat : (k : ℕ) → k < t.triangles → flat_face after (m.faces.used + k) ≡ 0
    pub straight : (k : ℕ) → k < length t.edges → straight_edge after (m.edges.used + k) ≡ 0

  -- "where planes were set"
  pub volume-accepted : 0 < t.triangles → Planes → volume_refusal after m.bodies.used ≡ 0
  unfolding volume_refusal require_polyhedral
  volume-accepted some-face s =
      rw (
        same-faces-refusal behind curves surfaces along on m.bodies.used,
        faces-followed m o t,
        same-faces behind curves surfaces along on m.bodies.used,
        faces-walked m o t,
        first_of-run (flat_face after) m.faces.used t.triangles s.flat,
        same-refusal behind curves surfaces along on m.bodies.used,
        edges-followed m o t,
        same-walk behind curves surfaces along on m.bodies.used,
        edges-walked m o t p,
        first_of-run (straight_edge after) m.edges.used (length t.edges) s.straight,
        its-kind,
        solid-sides m o t p curves surfaces along on,
        sides-run after new_sides m.faces.used t.triangles side-there,
        length-map (run m.faces.used t.triangles) new_sides,
        length_run m.faces.used t.triangles,
        ne_eqb t.triangles 0 (λ q. omega arith),
      )
    where
      its-kind : is_solid (body after m.bodies.used).kind ≡ true
      its-kind = unfold dressed in ap (λ (b : Body). is_solid b.kind) (body_new m o t)

  -- no bit is lost where every vertex is a binary32 value
  pub write-accepted : 0 < t.triangles → Planes → holds narrow_point t.points ≡ true → stl_refusal after m.bodies.used ≡ 0
  unfolding stl_refusal
  write-accepted some-face s good = rw (volume-accepted some-face s, solid-sides m o t p curves surfaces along on, narrow-run after new_sides m.faces.used t.triangles side-narrow)
    where
      point-narrow : (k : ℕ) → k < 3 * t.triangles → narrow_point (point_at m o t p curves surfaces along on k) ≡ true
      point-narrow k h = holds-nth narrow_point t.points (get_or t.steps k (step 0 0)).from nowhere good (ends-both (length t.points) (get_or t.steps k (step 0 0)) (p.ranged.step-ends k h)).0

      side-narrow : (j : ℕ) → j < t.triangles → narrow_points (side_points after (new_sides (m.faces.used + j))) ≡ true
      side-narrow j h =
          ap narrow_points (its-points m o t p curves surfaces along on j h)
          ∙ (unfold narrow_points in rw (point-narrow (3 * j + 0) (omega arith), point-narrow (3 * j + 1) (omega arith), point-narrow (3 * j + 2) (omega arith)))

-- ---- what is read of 32 bits and finite is a binary32 value

narrow-read : (x : Float) → fits binary32 x ≡ true → finite x ≡ true → narrow x ≡ true
unfolding narrow
narrow-read nan f h = absurd (false≢true h)
narrow-read (inf s) f h = absurd (false≢true h)
narrow-read (fin s m e) f h = f

point-read : (p : Point3) → fit_point p ≡ true → finite_point p ≡ true → narrow_point p ≡ true
unfolding fit_point finite_point
point-read p f h =
    let f1 = and_both (fits binary32 p.x && fits binary32 p.y) (fits binary32 p.z) f in
    let f2 = and_both (fits binary32 p.x) (fits binary32 p.y) f1.0 in
    let h1 = and_both (finite p.x && finite p.y) (finite p.z) h in
    let h2 = and_both (finite p.x) (finite p.y) h1.0 in
    rw (narrow-read p.x f2.0 h2.0, narrow-read p.y f2.1 h2.1, narrow-read p.z f1.1 h1.1)

all_read : (l : List Point3) → holds fit_point l ≡ true → all_finite l ≡ true → holds narrow_point l ≡ true
unfolding holds all_finite
all_read [] f h = refl
all_read (p ∷ l) f h =
    let a = and_both (fit_point p) (holds fit_point l) f in
    let b = and_both (finite_point p) (all_finite l) h in
    rw (point-read p a.0 b.0) (all_read l a.1 b.1)

pub vertices-narrow : (l : List Triangle) → holds fit_point (corners l) ≡ true → all_finite (corners l) ≡ true → holds narrow_point (mesh_of l).points ≡ true
unfolding mesh_of
vertices-narrow l f h = met_holds same_point narrow_point [] (corners l) none (all_read (corners l) f h)
  where
    none : holds narrow_point [] ≡ true
    none = unfold holds in refl
