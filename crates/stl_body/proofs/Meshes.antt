-- What holds of the vertices, edges and fins met: how many there are, that every number names one, and that no two are the same. Assumes nothing.
use Rattle.std.specs.Prelude.{ℕ, zero, suc, ◌+◌, ◌*◌, ◌≤◌, ◌<◌, ◌≡◌, Bool, false, cond, ◌&&◌, ◌||◌, eqb, ltb, get_or, Float}
use Rattle.std.proofs.Common.{arith, sym, ap, ◌∙◌}
use Rattle.std.proofs.Math.Path.{refl}
use Rattle.std.proofs.Math.Bool.{true}
use Rattle.std.specs.Bool.{beq}
use Rattle.std.proofs.lemmas.Bool.{false≢true}
use mathlib.Core.List.{List, [], ◌∷◌, map}
use Rattle.std.proofs.Math.ListN.{length, length-map}
use borrow.Author.Tests.{ltb-true, lt-ltb, eqb-true, eq-eqb}
use Rattle.std.specs.Float.{nan, inf, fin}
use Rattle.std.specs.Float.Ieee.{up, down, eq}
use Rattle.std.specs.Float.Ieee.Scale.{finite}
use Rattle.float_vectors.specs.declared.vector.Point3.{Point3}
use Rattle.float_vectors.specs.Space.{finite_point}
use Rattle.meaning_list_laws.specs.Tests.{and_both}
use Rattle.stl_format.specs.Stl.{Triangle}
use Rattle.stl_body.specs.Read.{known, which_of, all_met, same_point, corners, Step, step, same_step, steps_of, rising, edge_of, Mesh, mesh_of, all_finite, nowhere}
use Rattle.stl_body.specs.Laws.{holds, Apart}
use Rattle.stl_body.proofs.Laws.{holds-nth, holds-all, which-below, which-same, met-known, met-length, met_holds, met-apart}
use Rattle.stl_body.specs.Meshes.{Around, AroundAt, ends_below, Ranged}

-- ---- the same as itself

pub eq-itself : (x : Float) → finite x ≡ true → eq x x ≡ true
unfolding eq
eq-itself nan h = absurd (false≢true h)
eq-itself (inf s) h = absurd (false≢true h)
eq-itself (fin s m e) h = rw (eq-eqb (m * up e * down e) (m * up e * down e) refl) (by s)
  where
    by : (s : Bool) → (beq s s || eqb (m * up e * down e) 0) ≡ true
    by true = refl
    by false = refl

pub point-itself : (p : Point3) → finite_point p ≡ true → same_point p p ≡ true
unfolding finite_point same_point
point-itself p h =
    let front = and_both (finite p.x && finite p.y) (finite p.z) h in
    let both = and_both (finite p.x) (finite p.y) front.0 in
    rw (eq-itself p.x both.0, eq-itself p.y both.1, eq-itself p.z front.1)

pub step-itself : (s : Step) → same_step s s ≡ true
step-itself s = rw (eq-eqb s.from s.from refl, eq-eqb s.to s.to refl)

-- and steps that are the same are one
pub one-step : (s t : Step) → same_step s t ≡ true → s ≡ t
one-step s t h =
    let both = and_both (eqb s.from t.from) (eqb s.to t.to) h in
    let a : s.from ≡ t.from = eqb-true _ _ both.0 in
    let b : s.to ≡ t.to = eqb-true _ _ both.1 in
    ap (λ n. step n s.to) a ∙ ap (λ n. step t.from n) b

-- ---- how many

pub corners-length : (l : List Triangle) → length (corners l) ≡ 3 * length l
unfolding corners
corners-length [] = refl
corners-length (t ∷ l) = let h = corners-length l in omega arith

pub steps-length : (points : List Point3) (l : List Triangle) → length (steps_of points l) ≡ 3 * length l
unfolding steps_of
steps-length points [] = refl
steps-length points (t ∷ l) = let h = steps-length points l in omega arith

-- ---- the three steps of a triangle go around

steps-around : (points : List Point3) (l : List Triangle) (j : ℕ) → j < length l → AroundAt (steps_of points l) (3 * j)
unfolding steps_of
steps-around points [] j h = absurd (omega arith)
steps-around points (t ∷ l) zero h = record { first = refl; second = refl; third = refl }
steps-around points (t ∷ l) (suc j) h = rw (three 0, three 1, three 2) (steps-around points l j (omega arith))
  where
    three : (q : ℕ) → 3 * suc j + q ≡ suc (suc (suc (3 * j + q)))
    three q = omega arith

-- ---- every number names one

-- the corners of finite coordinates are all found
pub finite-themselves : (l : List Point3) → all_finite l ≡ true → holds (λ p. same_point p p) l ≡ true
unfolding all_finite holds
finite-themselves [] h = refl
finite-themselves (p ∷ l) h = let both = and_both (finite_point p) (all_finite l) h in rw (point-itself p both.0) (finite-themselves l both.1)

pub ends-both : (n : ℕ) (s : Step) → ends_below n s ≡ true → (s.from < n) × (s.to < n)
unfolding ends_below
ends-both n s h = let both = and_both (ltb s.from n) (ltb s.to n) h in (ltb-true _ _ both.0, ltb-true _ _ both.1)

module _ (points : List Point3) where
  abbrev at : Point3 → ℕ
  at p = which_of same_point p points

  abbrev stored : List Point3 → Bool
  stored l = holds (λ p. known same_point p points) l

  steps-below : (l : List Triangle) → stored (corners l) ≡ true → holds (ends_below (length points)) (steps_of points l) ≡ true
  unfolding corners steps_of holds ends_below
  steps-below [] h = refl
  steps-below (t ∷ l) h =
      let first = and_both (known same_point t.a points) _ h in
      let second = and_both (known same_point t.b points) _ first.1 in
      let third = and_both (known same_point t.c points) _ second.1 in
      rw (
        lt-ltb (at t.a) (length points) (which-below same_point t.a points first.0),
        lt-ltb (at t.b) (length points) (which-below same_point t.b points second.0),
        lt-ltb (at t.c) (length points) (which-below same_point t.c points third.0),
      )
      (steps-below l third.1)

edge-below : (n : ℕ) (s : Step) → ends_below n s ≡ true → ends_below n (edge_of s) ≡ true
unfolding ends_below edge_of
edge-below n s h = by (rising s)
  where
    by : (b : Bool) → ends_below n (cond b s (step s.to s.from)) ≡ true
    by true = h
    by false = let both = and_both (ltb s.from n) (ltb s.to n) h in rw (both.0, both.1)

edges-below : (n : ℕ) (l : List Step) → holds (ends_below n) l ≡ true → holds (ends_below n) (map edge_of l) ≡ true
unfolding holds
edges-below n [] h = refl
edges-below n (s ∷ l) h = let both = and_both (ends_below n s) (holds (ends_below n) l) h in rw (edge-below n s both.0) (edges-below n l both.1)

pub all-themselves : (l : List Step) → holds (λ s. same_step s s) l ≡ true
unfolding holds
all-themselves [] = refl
all-themselves (s ∷ l) = rw (step-itself s) (all-themselves l)

get_d_map : {A B : Type 0} (f : A → B) (l : List A) (i : ℕ) (d : A) (c : B) → i < length l → get_or (map f l) i c ≡ f (get_or l i d)
get_d_map f [] i d c h = absurd (omega arith)
get_d_map f (a ∷ l) zero d c h = refl
get_d_map f (a ∷ l) (suc i) d c h = get_d_map f l i d c (omega arith)

-- ---- the mesh of triangles whose coordinates are finite

module _ (l : List Triangle) (h : all_finite (corners l) ≡ true) where
  abbrev points : List Point3
  points = all_met same_point (corners l)

  abbrev steps : List Step
  steps = steps_of points l

  abbrev edges : List Step
  edges = all_met same_step (map edge_of steps)

  pub all-stored : holds (λ p. known same_point p points) (corners l) ≡ true
  all-stored = holds-all _ (corners l) nowhere (λ i b. met-known same_point [] (corners l) i nowhere (finite-themselves (corners l) h) b)

  below : holds (ends_below (length points)) steps ≡ true
  below = steps-below points l all-stored

  its-edge : (i : ℕ) → i < length steps → known same_step (edge_of (get_or steps i (step 0 0))) edges ≡ true
  its-edge i b =
      let n : i < length (map edge_of steps) = rw (length-map steps edge_of) b in
      rw (get_d_map edge_of steps i (step 0 0) (step 0 0) b) at (met-known same_step [] (map edge_of steps) i (step 0 0) (all-themselves (map edge_of steps)) n)

  numbered : (i : ℕ) → i < length steps → get_or (map (λ s. which_of same_step (edge_of s) edges) steps) i 0 ≡ which_of same_step (edge_of (get_or steps i (step 0 0))) edges
  numbered i b = get_d_map (λ s. which_of same_step (edge_of s) edges) steps i (step 0 0) 0 b

  pub mesh-ranged : Ranged (mesh_of l)
  unfolding mesh_of
  mesh-ranged =
      record {
        fins = steps-length points l;
        numbers = length-map steps _ ∙ steps-length points l;
        points-apart = met-apart same_point nowhere (corners l);
        edges-apart = met-apart same_step (step 0 0) (map edge_of steps);
        few-points = let a = met-length same_point [] (corners l) in let b = corners-length l in omega arith;
        few-edges = let a = met-length same_step [] (map edge_of steps) in let b = length-map steps edge_of in let c = steps-length points l in omega arith;
        ends = λ i b. holds-nth (ends_below (length points)) edges i (step 0 0) edges-in b;
        step-ends = λ i b. holds-nth (ends_below (length points)) steps i (step 0 0) below (rw (steps-length points l) b);
        fin-edge = λ i b. let n : i < length steps = rw (steps-length points l) b in rw (numbered i n) (which-below same_step _ edges (its-edge i n));
        loops = steps-around points l;
        fin-joins = λ i b. let n : i < length steps = rw (steps-length points l) b in rw (numbered i n) (sym (one-step _ _ (which-same same_step _ edges (step 0 0) (its-edge i n))));
      }
    where
      edges-in : holds (ends_below (length points)) edges ≡ true
      edges-in = met_holds same_step (ends_below (length points)) [] (map edge_of steps) (unfold holds in refl) (edges-below (length points) steps below)
