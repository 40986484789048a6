-- Laws of what is found of points. Assumes nothing.
use Rattle.std.specs.Prelude.{ℕ, zero, suc, ◌+◌, ◌≤◌, ◌<◌, ◌≡◌, refl, List, [], ◌∷◌, ◌++◌, Float, get_or}
use Rattle.std.proofs.Common.{arith, sym, ◌∙◌, inl, inr, eq-or-lt_of_le}
use Rattle.std.proofs.Math.Path.{ap}
use Rattle.std.specs.Float.Ieee.{lt}
use Rattle.std.proofs.Math.ListN.{get_or-append}
use Rattle.std.proofs.Math.Seq.{get_or-append_seam}
use Rattle.meaning_list_laws.specs.Lists.{length_run}
use Rattle.float_vectors.specs.declared.vector.Point3.{Point3}
use Rattle.geom_lines_planes.specs.Refuse.{answer}
use Rattle.geom_lines_planes.specs.Laws.{Cases, Gives, Refuses, read-value, read-refusal, result-cases, read-number}
use Rattle.geom_lines_planes.specs.Geometry.{line_point, plane_distance, effective}
use Rattle.geom_carriers.specs.Found.{Found}
use Rattle.geom_queries.specs.Queries.{Evaluated}
use Rattle.std.specs.Prelude.{Ok, Err}
use Rattle.geom_lines_planes.specs.declared.refusal.Refusal.{Refusal}
use Rattle.geom_lines_planes.specs.Refusals.{refused, number_of}
use Rattle.geom_queries.specs.declared.CurveProjection.{CurveProjection}
use Rattle.geom_queries.specs.Queries.{Projected}
use Rattle.geom_queries.specs.Queries.{Measured}
use Rattle.geom_carriers.specs.Queries.{the_line, the_plane}
use Rattle.geom_queries.specs.Queries.{eval_refusal, project_refusal, distance_refusal, eval_curve, projection, project_to_curve, distance_to_surface}
use Rattle.geom_signs.specs.Signs.{off_curve_s}
use Rattle.meaning.specs.Lists.{run}
use Rattle.meaning.specs.Model.{Model, edge, vertex, point_of, curve, surface}
use Rattle.meaning.specs.Faults.{of_edge, Asked, about, Finding, only_if, fault_on, geometry_error, off_curve, curve_test, point_on_surface, sample_test, sample_at}
use Rattle.check_points.specs.Points.{code_findings, surface_code, curve_findings, surface_findings, sample_findings}
use Rattle.check_points.specs.NoteLaws.{error-coded, error-few, off-coded, off-few}

-- ---- a query's answer, read back

projected-cases : Cases {B = CurveProjection} Ok refused
projected-cases = result-cases

measured-cases : Cases {B = Float} Ok refused
measured-cases = result-cases

evaluated-cases : Cases {B = Point3} Ok refused
evaluated-cases = result-cases

pub project-refused : (n m : ℕ) (v : CurveProjection) → answer Ok refused n v ≡ refused m → Refuses n m
project-refused = read-refusal projected-cases

pub project-given : (n : ℕ) (v w : CurveProjection) → answer Ok refused n v ≡ Ok w → Gives n v w
project-given = read-value projected-cases

pub measure-refused : (n m : ℕ) (v : Float) → answer Ok refused n v ≡ refused m → Refuses n m
measure-refused = read-refusal measured-cases

pub measure-given : (n : ℕ) (v w : Float) → answer Ok refused n v ≡ Ok w → Gives n v w
measure-given = read-value measured-cases

pub eval-refused : (n m : ℕ) (v : Point3) → answer Ok refused n v ≡ refused m → Refuses n m
eval-refused = read-refusal evaluated-cases

pub eval-given : (n : ℕ) (v w : Point3) → answer Ok refused n v ≡ Ok w → Gives n v w
eval-given = read-value evaluated-cases

-- ---- what a refusal and a value lead to

refused-some : (n m : ℕ) → Refuses n m → 0 < m
refused-some n m r = omega (arith, r.given)

pub error-refused : (a : Asked) (n m : ℕ) (l : List Finding) → Refuses n m → geometry_error a n l ≡ geometry_error a m []
unfolding geometry_error
error-refused a n zero l r = absurd (omega (arith, r.given))
error-refused a n (suc m) l r = ap (λ k. geometry_error a k l) (r.number ∙ sym r.given)

pub error-none : (a : Asked) (n : ℕ) (l : List Finding) → n ≡ 0 → geometry_error a n l ≡ l
unfolding geometry_error
error-none a n l e = ap (λ k. geometry_error a k l) e

-- ---- the two arms of each test: "7 is a check not made", "2 is reason 25, any other refusal is reason 26", or what the value says

module _ (f : Found) (p : Point3) (tolerance : Float) (n : ℕ) (a : Asked) (r : Measured) (e : r ≡ distance_to_surface f p) where
  surface-refused : (m : ℕ) (z : Refusal) → r ≡ Err z → m ≡ number_of z → (0 < m) × (surface_findings f p tolerance n a ≡ geometry_error a m [])
  unfolding distance_to_surface surface_findings
  surface-refused m z q h = let w = read-number _ m (plane_distance (the_plane f) p) z (sym e ∙ q) h in (refused-some _ m w, error-refused a _ m _ w)

  surface-given : (d : Float) → r ≡ Ok d → surface_findings f p tolerance n a ≡ only_if (lt tolerance d) (fault_on n a)
  unfolding distance_to_surface surface_findings
  surface-given d q =
      let w = measure-given (distance_refusal f p) _ d (sym e ∙ q) in
      error-none a _ _ w.number ∙ ap (λ x. only_if (lt tolerance x) (fault_on n a)) w.value

  -- by the code
  pub surface-coded : 0 < n → n ≤ 26 → surface_findings f p tolerance n a ≡ code_findings (surface_code r tolerance n) a
  surface-coded h g = by r refl
    where
      by : (q : Measured) → r ≡ q → surface_findings f p tolerance n a ≡ code_findings (surface_code q tolerance n) a
      by (Err z) q = let w = surface-refused (number_of z) z q refl in w.1 ∙ error-coded a (number_of z) w.0
      by (Ok d) q = surface-given d q ∙ off-coded (lt tolerance d) n a h g

pub surface-few : (r : Measured) (tolerance : Float) (n : ℕ) → n ≤ 26 → surface_code r tolerance n ≤ 27
surface-few (Err z) tolerance n g = error-few (number_of z)
surface-few (Ok d) tolerance n g = off-few (lt tolerance d) n g

module _ (f : Found) (p : Point3) (vertex edge : Float) (e v : ℕ) (r : Projected) (told : r ≡ project_to_curve f p) where
  pub curve-refused : (m : ℕ) (z : Refusal) → r ≡ Err z → m ≡ number_of z → (0 < m) × (curve_findings f p vertex edge e v ≡ geometry_error (about of_edge e) m [])
  unfolding project_to_curve curve_findings
  curve-refused m z q h =
      let w = read-number _ m (projection (the_line f) p) z (sym told ∙ q) h in (refused-some _ m w, error-refused (about of_edge e) _ m _ w)

  pub curve-given : (near : CurveProjection) → r ≡ Ok near → curve_findings f p vertex edge e v ≡ off_curve (off_curve_s p near.point vertex edge) v
  unfolding project_to_curve curve_findings
  curve-given near q =
      let w = project-given (project_refusal f p) _ near (sym told ∙ q) in
      error-none (about of_edge e) _ _ w.number ∙ ap (λ x. off_curve (off_curve_s p x.point vertex edge) v) w.value

module _ (f s : Found) (tolerance : Float) (e : ℕ) (t : Float) (r : Evaluated) (told : r ≡ eval_curve f t) where
  pub sample-refused : (m : ℕ) (z : Refusal) → r ≡ Err z → m ≡ number_of z → (0 < m) × (sample_findings f s tolerance e t ≡ geometry_error (about of_edge e) m [])
  unfolding eval_curve sample_findings
  sample-refused m z q h =
      let w = read-number _ m (line_point (the_line f) t) z (sym told ∙ q) h in (refused-some _ m w, error-refused (about of_edge e) _ m _ w)

  pub sample-given : (p : Point3) → r ≡ Ok p → sample_findings f s tolerance e t ≡ surface_findings s p tolerance 24 (about of_edge e)
  unfolding eval_curve sample_findings
  sample-given p q =
      let w = eval-given (eval_refusal f t) _ p (sym told ∙ q) in
      error-none (about of_edge e) _ _ w.number ∙ ap (λ x. surface_findings s x tolerance 24 (about of_edge e)) w.value

-- ---- samples

pub run-nth : (u n k : ℕ) → k < n → get_or (run u n) k 0 ≡ u + k
unfolding run
run-nth u zero k h = absurd (omega arith)
run-nth u (suc n) k h = elim (eq-or-lt_of_le h) [
  | inl e ↦
      let q : k ≡ n = omega arith in
      ap (λ i. get_or (run u n ++ ((u + n) ∷ [])) i 0) (q ∙ sym (length_run u n)) ∙ get_or-append_seam (run u n) (u + n) [] 0 ∙ ap (λ i. u + i) (sym q)
  | inr l ↦
      let q : k < n = omega arith in
      get_or-append (run u n) ((u + n) ∷ []) 0 k (rw length_run q) ∙ run-nth u n k q
]

pub sample-entry : (f s : Found) (tolerance : Float) (e : ℕ) (t0 t1 : Float) (n k : ℕ) (at : Float) → k < n → at ≡ sample_at t0 t1 n (k + 1)
    → sample_findings f s tolerance e at ≡ sample_findings f s tolerance e (sample_at t0 t1 n (get_or (run 1 n) k 0))
sample-entry f s tolerance e t0 t1 n k at h q =
    let i : k + 1 ≡ 1 + k = omega arith in
    ap (sample_findings f s tolerance e) (q ∙ ap (sample_at t0 t1 n) (i ∙ sym (run-nth 1 n k h)))

-- ---- what `meaning` says

pub curve-test : (m : Model) (e c v : ℕ)
    → curve_test m e c v ≡ curve_findings (curve m c) (point_of m v) (effective m.version (vertex m v).tolerance m.precision) (effective m.version (edge m e).tolerance m.precision) e v
unfolding curve_test curve_findings
curve-test m e c v = refl

pub point-on-surface : (m : Model) (s : ℕ) (p : Point3) (tolerance : Float) (n : ℕ) (a : Asked)
    → point_on_surface m s p tolerance n a ≡ surface_findings (surface m s) p tolerance n a
unfolding point_on_surface surface_findings
point-on-surface m s p tolerance n a = refl

pub sample-test : (m : Model) (e c s : ℕ) (t : Float) → sample_test m e c s t ≡ sample_findings (curve m c) (surface m s) (effective m.version (edge m e).tolerance m.precision) e t
unfolding sample_test sample_findings point_on_surface surface_findings
sample-test m e c s t = refl
