-- As many doubts as checks that were not made: of lists, of a fin's geometry, of each record on the way to it. Assumes nothing.
use Prim.Native.Nat.{ℕ, zero, suc, ◌+◌}
use Rattle.std.proofs.Common.{arith, sym, ap₂, ◌∙◌, length-append}
use Rattle.std.specs.Prelude.{◌≡◌, refl, Bool, true, false, cond, ◌&&◌}
use Rattle.std.proofs.Math.Bool.{not}
use mathlib.Core.List.{List, [], ◌∷◌, ◌++◌}
use Rattle.std.proofs.Math.Dec.{eqb}
use Rattle.std.proofs.Math.ListN.{length}
use Rattle.std.specs.Float.Ieee.{Float, lt}
use Rattle.interval_arithmetic.specs.declared.Sign.{Sign}
use Rattle.interval_arithmetic.specs.declared.Sign.TheVariants.{Negative, Zero, Positive, Unresolved}
use Rattle.float_vectors.specs.declared.vector.Point3.{Point3}
use Rattle.geom_lines_planes.specs.Geometry.{line_point, nearest, plane_distance, effective}
use Rattle.geom_carriers.specs.Queries.{the_line, the_plane}
use Rattle.geom_queries.specs.Queries.{eval_refusal, distance_refusal}
use Rattle.meaning.specs.Lists.{run, joined, member, the, is}
use Rattle.meaning.specs.Model.{Model, has, body, region, fin, edge, point_of, curve, surface}
use Rattle.meaning.specs.Walks.{edges_refusal, edge_walk, edge_vertices, readable_fin}
use Rattle.meaning.specs.Inquire.{is_solid}
use Rattle.meaning.specs.Faults.{of_body, of_edge, reason_row, class_or, Asked, Finding, found, skipped, about, fault_on, fault, only_if, geometry_error, off_curve, point_on_surface, sample_at, sample_test, sample_tests, projected, fin_findings, meets_next, open_at, opens, layout, same_sense, manifold, manifold_edge, manifold_edges, skipped_of, CheckOptions}
use Rattle.meaning_doubts.specs.Doubts.{Doubt, doubt, queried, unresolved, sample_doubt, sample_doubts, doubts}
use Rattle.meaning_doubts.specs.Doubts as Doubts

-- there are as many
abbrev pub Same : List Doubt → List Finding → Type 0
Same d l = length d ≡ skipped_of l

pub skipped-append : (k l : List Finding) → skipped_of (k ++ l) ≡ skipped_of k + skipped_of l
unfolding skipped_of
skipped-append [] l = omega arith
skipped-append (found f ∷ k) l = skipped-append k l
skipped-append (skipped ∷ k) l = let e = skipped-append k l in omega arith

pub same_none : Same [] []
unfolding skipped_of
same_none = refl

pub same-append : (c d : List Doubt) (k l : List Finding) → Same c k → Same d l → Same (c ++ d) (k ++ l)
same-append c d k l p q = length-append c d ∙ ap₂ ◌+◌ p q ∙ sym (skipped-append k l)

pub same-joined : (g : ℕ → List Doubt) (f : ℕ → List Finding) (l : List ℕ) → ((i : ℕ) → Same (g i) (f i)) → Same (joined g l) (joined f l)
unfolding joined
same-joined g f [] h = same_none
same-joined g f (i ∷ l) h = same-append (g i) (joined g l) (f i) (joined f l) (h i) (same-joined g f l h)

pub same_cond : (b : Bool) (c d : List Doubt) (k l : List Finding) → Same c k → Same d l → Same (cond b c d) (cond b k l)
same_cond true c d k l p q = p
same_cond false c d k l p q = q

-- faults alone: no doubt
pub fault-alone : (n i : ℕ) → Same [] (fault n i ∷ [])
unfolding skipped_of fault_on
fault-alone n i = refl

only-fault : (b : Bool) (n : ℕ) (a : Asked) → Same [] (only_if b (fault_on n a))
unfolding skipped_of fault_on
only-fault true n a = refl
only-fault false n a = refl

-- what follows faults
pub behind-faults : (d : List Doubt) (k l : List Finding) → Same [] k → Same d l → Same d (k ++ l)
behind-faults d k l p q = same-append [] d k l p q

-- and what faults follow
pub before-faults : (d : List Doubt) (k l : List Finding) → Same d k → Same [] l → Same d (k ++ l)
before-faults d k l p q = p ∙ sum (skipped_of l) q ∙ sym (skipped-append k l)
  where
    sum : (n : ℕ) → 0 ≡ n → skipped_of k ≡ skipped_of k + n
    sum n e = omega arith

-- ---- the geometry of a fin

pub query-same : (a : Asked) (n : ℕ) (x : Doubt) (d : List Doubt) (l : List Finding) → Same d l → Same (queried n x d) (geometry_error a n l)
unfolding queried geometry_error skipped_of fault_on
query-same a zero x d l p = p
query-same a (suc n) x d l p = go (eqb n 6) (eqb n 1)
  where
    go : (b c : Bool) → Same (cond b (x ∷ []) []) (cond b (skipped ∷ []) (cond c (fault_on 25 a ∷ []) (fault_on 26 a ∷ [])))
    go true c = refl
    go false true = refl
    go false false = refl

pub sign_same : (s : Sign) (v : ℕ) (x : Doubt) → Same (unresolved s x) (off_curve s v)
unfolding skipped_of fault_on
sign_same Negative v x = refl
sign_same Zero v x = refl
sign_same Positive v x = refl
sign_same Unresolved v x = refl

module _ (m : Model) (i e c s : ℕ) where
  pub surface-same : (p : Point3) (tolerance : Float) (n : ℕ) (a : Asked) (x : Doubt) → Same (queried (distance_refusal (surface m s) p) x []) (point_on_surface m s p tolerance n a)
  unfolding point_on_surface
  surface-same p tolerance n a x = query-same a (distance_refusal (surface m s) p) x [] _ (only-fault (lt tolerance (plane_distance (the_plane (surface m s)) p)) n a)

  sample-same : (k : ℕ) (t : Float) → Same (sample_doubt m i e c s k t) (sample_test m e c s t)
  unfolding sample_doubt sample_test
  sample-same k t =
      let d : Doubt = doubt (Doubts.sample k) (about of_edge e) i in
      query-same (about of_edge e) (eval_refusal (curve m c) t) d _ _
      (surface-same (line_point (the_line (curve m c)) t) (effective m.version (edge m e).tolerance m.precision) 24 (about of_edge e) d)

  pub samples-same : (n : ℕ) → Same (sample_doubts m n i e c s) (sample_tests m n e c s)
  unfolding sample_doubts sample_tests
  samples-same n =
      let t0 : Float = nearest (the_line (curve m c)) (point_of m (the (edge m e).start)) in
      let t1 : Float = nearest (the_line (curve m c)) (point_of m (the (edge m e).end)) in
      same_cond (projected m c (edge m e).start && projected m c (edge m e).end) _ [] _ []
      (same-joined _ (λ k. sample_test m e c s (sample_at t0 t1 n k)) (run 1 n) (λ k. sample-same _ (sample_at t0 t1 n k)))
      same_none

pub ring-same : (b : Bool) (x : Doubt) → Same (cond b (x ∷ []) []) (only_if b skipped)
unfolding skipped_of
ring-same true x = refl
ring-same false x = refl

-- ---- topology leaves no doubt

pub joined-faults : (f : ℕ → List Finding) (l : List ℕ) → ((i : ℕ) → Same [] (f i)) → Same [] (joined f l)
unfolding joined
joined-faults f [] h = same_none
joined-faults f (i ∷ l) h = behind-faults [] (f i) (joined f l) (h i) (joined-faults f l h)

cond-faults : (b : Bool) (k l : List Finding) → Same [] k → Same [] l → Same [] (cond b k l)
cond-faults true k l p q = p
cond-faults false k l p q = q

-- the fault n at i where the test holds
pub only : (b : Bool) (n i : ℕ) → Same [] (only_if b (fault n i))
only b n i = only-fault b n (about (class_or (reason_row n).class of_body) i)

module _ (m : Model) where
  pub fin-faults : (l i : ℕ) → Same [] (fin_findings m l i)
  unfolding fin_findings
  fin-faults l i =
      let e : ℕ = (fin m i).edge in
      cond-faults (has m.fins i) _ (fault 13 l ∷ [])
      (behind-faults [] (only_if (not (eqb (fin m i).owner l)) (fault 14 i)) _ (only (not (eqb (fin m i).owner l)) 14 i)
      (cond-faults (has m.edges e) _ (fault 15 i ∷ [])
      (behind-faults [] (only_if (not (member i (edge m e).fins)) (fault 16 e)) _ (only (not (member i (edge m e).fins)) 16 e)
      (joined-faults (λ v. only_if (not (has m.vertices v)) (fault 17 e)) (edge_vertices (edge m e)) (λ v. only (not (has m.vertices v)) 17 e)))
      (fault-alone 15 i)))
      (fault-alone 13 l)

  pub open-faults : (k l : List ℕ) → Same [] (opens m k l)
  unfolding opens
  open-faults [] l = same_none
  open-faults (i ∷ k) [] = same_none
  open-faults (i ∷ k) (j ∷ l) = behind-faults [] (open_at m i j) (opens m k l) (only (readable_fin m i && readable_fin m j && not (meets_next m i j)) 18 i) (open-faults k l)

  pub layout-faults : (b : ℕ) (l : List ℕ) → Same [] (layout m b l)
  layout-faults b [] = fault-alone 1 b
  layout-faults b (r ∷ l) = only (has m.regions r && (region m r).solid) 2 b

  manifold-faults : (e : ℕ) (l : List ℕ) → Same [] (manifold m e l)
  unfolding manifold
  manifold-faults e [] = fault-alone 19 e
  manifold-faults e (i ∷ []) = fault-alone 19 e
  manifold-faults e (i ∷ j ∷ []) = only (has m.fins i && has m.fins j && same_sense (fin m i).sense (fin m j).sense) 20 e
  manifold-faults e (i ∷ j ∷ k ∷ l) = fault-alone 19 e

  pub manifold-edges : (b : ℕ) → Same [] (manifold_edges m b)
  unfolding manifold_edges manifold_edge
  manifold-edges b =
      cond-faults (is_solid (body m b).kind && eqb (edges_refusal m b) 0) (joined (manifold_edge m) (edge_walk m b)) [] (joined-faults (manifold_edge m) (edge_walk m b) (λ e. cond-faults (has m.edges e) _ [] (manifold-faults e (edge m e).fins) same_none)) same_none

-- ---- the way to a fin, where geometry is checked (g) with n samples

-- the doubts where geometry is checked
abbrev pub on : Bool → List Doubt → List Doubt
on g d = cond g d []

pub on-joined : (g : Bool) (d : ℕ → List Doubt) (f : ℕ → List Finding) (l : List ℕ) → ((i : ℕ) → Same (on g (d i)) (f i)) → Same (on g (joined d l)) (joined f l)
on-joined true d f l h = same-joined d f l h
on-joined false d f l h = joined-faults f l h

pub on-cond : (g b : Bool) (d : List Doubt) (k l : List Finding) → Same (on g d) k → Same [] l → Same (on g (cond b d [])) (cond b k l)
on-cond true b d k l p q = same_cond b d [] k l p q
on-cond false b d k l p q = cond-faults b k l p q

pub on_none : (g : Bool) → on g [] ≡ []
on_none true = refl
on_none false = refl

pub none-joined : (d : ℕ → List Doubt) (l : List ℕ) → length l ≡ 0 → joined d l ≡ []
unfolding joined
none-joined d [] z = refl
none-joined d (i ∷ l) z = absurd (omega arith)

pub cond_both : (a b : Bool) (d : List Doubt) → cond (a && b) d [] ≡ cond a (cond b d []) []
cond_both true b d = refl
cond_both false b d = refl

module _ (m : Model) (g : Bool) (n : ℕ) where
  abbrev pub options : CheckOptions
  options = record { geometry = g; edge_samples = n }
