-- What is found of an edge is what `meaning` says. Assumes nothing.
use Rattle.std.specs.Prelude.{ℕ, ◌≡◌, Bool, cond, ◌&&◌, List, [], ◌++◌, Float}
use Rattle.std.proofs.Math.Path.{refl, ap}
use Rattle.std.proofs.Common.{◌∙◌}
use Rattle.std.proofs.Math.Bool.{true, false}
use Rattle.std.proofs.Math.Option.{Option, none, some}
use Rattle.geom_lines_planes.specs.Geometry.{nearest, effective}
use Rattle.geom_carriers.specs.Found.{Found}
use Rattle.geom_carriers.specs.Queries.{the_line}
use Rattle.meaning.specs.Lists.{run, the, listed, joined}
use Rattle.meaning.specs.Model.{Model, has, edge, vertex, point_of, curve, surface}
use Rattle.meaning.specs.Faults.{skipped, only_if, end_tests, projected, sample_test, sample_tests, sample_at, carried, other_ring, curve_test, point_on_surface}
use Rattle.meaning_list_laws.specs.Lists.{joined-append}
use Rattle.memory_records.specs.declared.records.Vertex.{Vertex}
use Rattle.memory_records.specs.Seen.{seen_vertex}
use Rattle.check_points.specs.Points.{curve_findings, surface_findings, sample_findings, samples_findings}
use Rattle.check_ends.specs.Ends.{Param}
use Rattle.std.specs.Prelude.{Some, None}
use Rattle.check_ends.specs.Ends.{param_at, ringed}
use Rattle.check_edge.specs.Edge.{end_at, end_findings, ends_findings, param_of, between, samples_between, rim_findings}

-- a vertex that is missing, and one that is there
module _ (m : Model) (curve surface : Found) (tolerance : Float) (e v : ℕ) where
  pub end-missing : has m.vertices v ≡ false → end_findings m curve surface tolerance e v ≡ []
  unfolding end_findings
  end-missing h = rw h

  pub end-there : (x : Vertex) (own : Float) → has m.vertices v ≡ true → x ≡ seen_vertex (vertex m v) → own ≡ effective m.version x.tolerance m.precision
      → end_findings m curve surface tolerance e v ≡ end_at curve surface x.point own tolerance e v
  unfolding end_findings seen_vertex
  end-there x own h p q = rw (h, q, p)

-- ---- samples, by the cases of both parameters

module _ (curve surface : Found) (tolerance : Float) (n e : ℕ) (p q : Param) where
  pub between_none : p ≡ None → between curve surface tolerance n e p q ≡ []
  unfolding between
  between_none h = rw h

  pub between-one : (t0 : Float) → p ≡ Some t0 → q ≡ None → between curve surface tolerance n e p q ≡ []
  unfolding between
  between-one t0 h g = rw (h, g)

  pub between-both : (t0 t1 : Float) → p ≡ Some t0 → q ≡ Some t1 → between curve surface tolerance n e p q ≡ samples_findings curve surface tolerance e t0 t1 n
  unfolding between
  between-both t0 t1 h g = rw (h, g)

pub samples-told : (m : Model) (curve surface : Found) (tolerance : Float) (n e : ℕ) (a b : Option ℕ) (p q : Param) → p ≡ param_of m curve a → q ≡ param_of m curve b
    → samples_between m curve surface tolerance n e a b ≡ between curve surface tolerance n e p q
unfolding samples_between
samples-told m curve surface tolerance n e a b p q h g = rw (h, g)

-- ---- what `meaning` says

module _ (m : Model) (n e c s : ℕ) where
  abbrev tolerance : Float
  tolerance = effective m.version (edge m e).tolerance m.precision

  choose : (p q : Bool) (t0 t1 : Float)
      → cond (p && q) (joined (λ k. sample_test m e c s (sample_at t0 t1 n k)) (run 1 n)) []
      ≡ between (curve m c) (surface m s) tolerance n e (cond p (Some t0) None) (cond q (Some t1) None)
  unfolding between samples_findings sample_test sample_findings point_on_surface surface_findings
  choose true true t0 t1 = refl
  choose true false t0 t1 = refl
  choose false true t0 t1 = refl
  choose false false t0 t1 = refl

  sampled : (a b : Option ℕ)
      → cond (projected m c a && projected m c b)
      (joined (λ k. sample_test m e c s (sample_at (nearest (the_line (curve m c)) (point_of m (the a))) (nearest (the_line (curve m c)) (point_of m (the b))) n k)) (run 1 n))
      []
      ≡ samples_between m (curve m c) (surface m s) tolerance n e a b
  unfolding samples_between param_of param_at
  sampled none none = choose false false (nearest (the_line (curve m c)) (point_of m 0)) (nearest (the_line (curve m c)) (point_of m 0))
  sampled none (some v) = choose false (projected m c (some v)) (nearest (the_line (curve m c)) (point_of m 0)) (nearest (the_line (curve m c)) (point_of m v))
  sampled (some u) none = choose (projected m c (some u)) false (nearest (the_line (curve m c)) (point_of m u)) (nearest (the_line (curve m c)) (point_of m 0))
  sampled (some u) (some v) = choose (projected m c (some u)) (projected m c (some v)) (nearest (the_line (curve m c)) (point_of m u)) (nearest (the_line (curve m c)) (point_of m v))

  -- an edge that has a curve, in a face that has a surface
  pub carried_on : carried m n e (some c) (some s) ≡ rim_findings m (curve m c) (surface m s) tolerance n e (edge m e).start (edge m e).end
  unfolding carried rim_findings ends_findings sample_tests ringed end_tests end_findings end_at curve_test curve_findings point_on_surface surface_findings
  carried_on =
      ap (λ l. l ++ sample_tests m n e c s ++ only_if (other_ring m e c s) skipped) (joined-append (end_findings m (curve m c) (surface m s) tolerance e) (listed (edge m e).start) (listed (edge m e).end))
      ∙ ap (λ l. ends_findings m (curve m c) (surface m s) tolerance e (edge m e).start (edge m e).end ++ l ++ only_if (other_ring m e c s) skipped) (sampled (edge m e).start (edge m e).end)
