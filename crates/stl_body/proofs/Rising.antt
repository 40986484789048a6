-- "one edge for each unordered pair of vertices, running from the lower id to the higher": where no triangle has two equal corners, an edge's start is below its end. Assumes nothing.
use Rattle.std.specs.Prelude.{ℕ, ◌*◌, ◌/◌, ◌<◌, ◌≡◌, Bool, cond, ◌&&◌, ◌||◌, eqb, leb, ltb, length, get_or, Float}
use Rattle.std.proofs.Common.{arith, mul-div_cancel, mul_right_comm, zero-mul, ap, ◌∙◌}
use Rattle.std.proofs.Math.Path.{refl, sym}
use Rattle.std.proofs.Math.Bool.{true, false, not}
use Rattle.std.specs.Bool.{beq}
use Rattle.std.proofs.lemmas.Bool.{false≢true}
use mathlib.Core.List.{List, [], ◌∷◌, map}
use borrow.Author.Tests.{eqb-true, eqb-false, eq-eqb, ne_eqb, leb-true, leb-false, lt-ltb, ltb-true}
use Rattle.std.specs.Float.{nan, inf, fin}
use Rattle.std.specs.Float.Ieee.{up, down, eq}
use Rattle.std.specs.Float.Ieee.Fits.{down_pos}
use Rattle.float_vectors.specs.declared.vector.Point3.{Point3}
use Rattle.meaning_list_laws.specs.Tests.{and_both, or-none}
use Rattle.stl_format.specs.Stl.{Triangle}
use Rattle.stl_body.specs.Read.{known, which_of, all_met, same_point, corners, Step, step, same_step, steps_of, edge_of, mesh_of, all_finite, all_apart, nowhere}
use Rattle.stl_body.specs.Laws.{holds}
use Rattle.stl_body.proofs.Laws.{holds-nth, which-same, met_holds}
use Rattle.stl_body.proofs.Meshes.{all-stored}

-- ---- two floats that are equal to a third are equal

cancel : (a b d : ℕ) → 0 < d → a * d ≡ b * d → a ≡ b
cancel a b d h e = sym (mul-div_cancel a h) ∙ ap (λ k. k / d) e ∙ mul-div_cancel b h

module _ (a b c d e f : ℕ) (d-pos : 0 < d) (first : a * d ≡ b * e) (second : c * d ≡ b * f) where
  cross : a * f ≡ c * e
  cross =
      cancel (a * f) (c * e) d d-pos
      (mul_right_comm a f d ∙ ap (λ k. k * f) first ∙ mul_right_comm b e f ∙ sym (ap (λ k. k * e) second) ∙ mul_right_comm c d e)

  nothing-of : (k g : ℕ) → eqb (k * d) 0 ≡ true → k * g ≡ 0
  nothing-of k g h = ap (λ n. n * g) (cancel k 0 d d-pos (eqb-true (k * d) 0 h ∙ sym (zero-mul d))) ∙ zero-mul g

  signs : (s t u : Bool) → (beq s t || eqb (a * d) 0) ≡ true → (beq u t || eqb (c * d) 0) ≡ true → (beq s u || eqb (a * f) 0) ≡ true
  signs true t true p q = refl
  signs false t false p q = refl
  signs true true false p q = eq-eqb (a * f) 0 (cross ∙ nothing-of c e q)
  signs true false false p q = eq-eqb (a * f) 0 (nothing-of a f p)
  signs false true true p q = eq-eqb (a * f) 0 (nothing-of a f p)
  signs false false true p q = eq-eqb (a * f) 0 (cross ∙ nothing-of c e q)

pub eq-joined : (x y z : Float) → eq x y ≡ true → eq z y ≡ true → eq x z ≡ true
unfolding eq
eq-joined nan y z p q = absurd (false≢true p)
eq-joined (inf s) nan z p q = absurd (false≢true p)
eq-joined (inf s) (inf t) nan p q = absurd (false≢true q)
eq-joined (inf s) (inf t) (inf u) p q = by s t u p q
  where
    by : (s t u : Bool) → beq s t ≡ true → beq u t ≡ true → beq s u ≡ true
    by true t true p q = refl
    by false t false p q = refl
    by true true false p q = q
    by true false false p q = p
    by false true true p q = p
    by false false true p q = q
eq-joined (inf s) (inf t) (fin u c f) p q = absurd (false≢true q)
eq-joined (inf s) (fin t b d) z p q = absurd (false≢true p)
eq-joined (fin s a e) nan z p q = absurd (false≢true p)
eq-joined (fin s a e) (inf t) z p q = absurd (false≢true p)
eq-joined (fin s a e) (fin t b d) nan p q = absurd (false≢true q)
eq-joined (fin s a e) (fin t b d) (inf u) p q = absurd (false≢true q)
eq-joined (fin s a e) (fin t b d) (fin u c f) p q =
    let one = and_both (eqb (a * up e * down d) (b * up d * down e)) _ p in
    let two = and_both (eqb (c * up f * down d) (b * up d * down f)) _ q in
    let first : a * up e * down d ≡ b * up d * down e = eqb-true _ _ one.0 in
    let second : c * up f * down d ≡ b * up d * down f = eqb-true _ _ two.0 in
    rw (eq-eqb (a * up e * down f) (c * up f * down e) (cross (a * up e) (b * up d) (c * up f) (down d) (down e) (down f) (down_pos d) first second))
    (signs (a * up e) (b * up d) (c * up f) (down d) (down e) (down f) (down_pos d) first second s t u one.1 two.1)

pub points-joined : (p q r : Point3) → same_point p q ≡ true → same_point r q ≡ true → same_point p r ≡ true
unfolding same_point
points-joined p q r g h =
    let a = and_both (eq p.x q.x && eq p.y q.y) (eq p.z q.z) g in
    let b = and_both (eq p.x q.x) (eq p.y q.y) a.0 in
    let c = and_both (eq r.x q.x && eq r.y q.y) (eq r.z q.z) h in
    let d = and_both (eq r.x q.x) (eq r.y q.y) c.0 in
    rw (eq-joined p.x q.x r.x b.0 d.0, eq-joined p.y q.y r.y b.1 d.1, eq-joined p.z q.z r.z a.1 c.1)

-- ---- corners that are not equal are not one vertex

unfoldable differs : Step → Bool
differs s = not (eqb s.from s.to)

module _ (points : List Point3) where
  two-vertices : (p q : Point3) → known same_point p points ≡ true → known same_point q points ≡ true → same_point p q ≡ false → which_of same_point p points ≡ which_of same_point q points → ⊥
  two-vertices p q g h apart e =
      let k = which_of same_point q points in
      let a : same_point p (get_or points k nowhere) ≡ true = rw e at (which-same same_point p points nowhere g) in
      false≢true (sym apart ∙ points-joined p (get_or points k nowhere) q a (which-same same_point q points nowhere h))

  steps-differ : (l : List Triangle) → holds (λ p. known same_point p points) (corners l) ≡ true → all_apart l ≡ true → holds differs (steps_of points l) ≡ true
  unfolding corners steps_of holds all_apart differs
  steps-differ [] g h = refl
  steps-differ (t ∷ l) g h =
      let first = and_both (known same_point t.a points) _ g in
      let second = and_both (known same_point t.b points) _ first.1 in
      let third = and_both (known same_point t.c points) _ second.1 in
      let ab = same_point t.a t.b in
      let bc = same_point t.b t.c in
      let ca = same_point t.c t.a in
      let both = and_both (not (ab || bc || ca)) (all_apart l) h in
      let last = or-none (ab || bc) ca (was-false (ab || bc || ca) both.0) in
      let two = or-none ab bc last.0 in
      rw (
        ne_eqb _ _ (two-vertices t.a t.b first.0 second.0 two.0),
        ne_eqb _ _ (two-vertices t.b t.c second.0 third.0 two.1),
        ne_eqb _ _ (two-vertices t.c t.a third.0 first.0 last.1),
      )
      (steps-differ l third.1 both.1)
    where
      was-false : (b : Bool) → not b ≡ true → b ≡ false
      was-false true e = sym e
      was-false false e = refl

unfoldable upward : Step → Bool
upward s = ltb s.from s.to

edge-upward : (s : Step) → not (eqb s.from s.to) ≡ true → upward (edge_of s) ≡ true
unfolding upward edge_of
edge-upward s h = by (leb s.from s.to) refl (eqb s.from s.to) refl h
  where
    by : (b : Bool) → leb s.from s.to ≡ b → (c : Bool) → eqb s.from s.to ≡ c → not c ≡ true → upward (cond b s (step s.to s.from)) ≡ true
    by b e true f g = absurd (false≢true g)
    by true e false f g = lt-ltb s.from s.to (omega (arith, leb-true s.from s.to e, eqb-false s.from s.to f))
    by false e false f g = lt-ltb s.to s.from (omega (arith, leb-false s.from s.to e))

edges-upward : (l : List Step) → holds differs l ≡ true → holds upward (map edge_of l) ≡ true
unfolding holds differs
edges-upward [] h = refl
edges-upward (s ∷ l) h = let both = and_both (differs s) (holds differs l) h in rw (edge-upward s both.0) (edges-upward l both.1)

-- of an accepted reading's triangles (`finite` and `apart` of `Accepted`)
pub edges-rise : (l : List Triangle) → all_finite (corners l) ≡ true → all_apart l ≡ true
    → (i : ℕ) → i < length (mesh_of l).edges → (get_or (mesh_of l).edges i (step 0 0)).from < (get_or (mesh_of l).edges i (step 0 0)).to
unfolding mesh_of upward
edges-rise l g h i b =
    let points = all_met same_point (corners l) in
    let steps = steps_of points l in
    let all = met_holds same_step upward [] (map edge_of steps) none_yet (edges-upward steps (steps-differ points l (all-stored l g) h)) in
    ltb-true _ _ (holds-nth upward (all_met same_step (map edge_of steps)) i (step 0 0) all b)
  where
    none_yet : holds upward [] ≡ true
    none_yet = unfold holds in refl
