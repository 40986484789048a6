-- Laws of the ends of an edge. Assumes nothing.
use Prim.Native.Nat.{ℕ, suc}
use Rattle.std.proofs.Common.{arith, ◌∙◌, append-nil}
use borrow.Author.Tests.{eq-eqb, ne_eqb}
use Rattle.std.specs.Prelude.{◌≡◌, refl, Bool, true, false, not, cond, ◌&&◌, ◌||◌, List, [], eqb}
use Rattle.std.proofs.Math.Path.{sym, ap}
use Rattle.std.proofs.Math.Option.{Option, none, some}
use Rattle.geom_lines_planes.specs.Geometry.{nearest}
use Rattle.geom_carriers.specs.Found.{Found}
use Rattle.geom_queries.specs.declared.CurveProjection.{CurveProjection}
use Rattle.geom_queries.specs.Queries.{Projected}
use Rattle.std.specs.Prelude.{Ok, Err}
use Rattle.geom_lines_planes.specs.declared.refusal.Refusal.{Refusal}
use Rattle.geom_lines_planes.specs.Laws.{read-err}
use Rattle.geom_carriers.specs.Queries.{the_line}
use Rattle.geom_queries.specs.Queries.{project_refusal, projection, project_to_curve}
use Rattle.meaning.specs.Lists.{is_some, listed, joined}
use Rattle.meaning.specs.Model.{Model, has, vertex, point_of}
use Rattle.meaning.specs.Faults.{Finding, no_line, no_plane}
use Rattle.memory_records.specs.Seen.{Ref}
use Rattle.std.specs.Prelude.{Some, None}
use Rattle.memory_records.specs.declared.records.Vertex.{Vertex}
use Rattle.memory_records.specs.Seen.{seen_ref, seen_vertex}
use Rattle.check_points.specs.Laws.{project-refused, project-given}
use Rattle.check_ends.specs.Ends.{Param}
use Rattle.check_ends.specs.Ends.{ref_of, param_at, ringed}

-- an optional id that a record was read with
pub ref_back : (o : Option ℕ) → ref_of (seen_ref o) ≡ o
unfolding seen_ref
ref_back none = refl
ref_back (some i) = refl

-- what is found of an end, by its case
pub no_end : (f : ℕ → List Finding) (r : Ref) → r ≡ None → joined f (listed (ref_of r)) ≡ []
unfolding joined
no_end f r e = rw e

pub one_end : (f : ℕ → List Finding) (r : Ref) (v : ℕ) → r ≡ Some v → joined f (listed (ref_of r)) ≡ f v
unfolding joined
one_end f r v e = rw e (append-nil (f v))

-- ---- the rule of rings

pub ring-told : (curve surface : Found) (a b : Option ℕ) (p q r s : Bool) → p ≡ not (is_some a) → q ≡ not (is_some b) → r ≡ no_line curve → s ≡ no_plane surface
    → (p && q && (r || s)) ≡ ringed curve surface a b
unfolding ringed
ring-told curve surface a b p q r s h i j k = cc

-- ---- an end's parameter, by the arm of the query

param-none : (m : Model) (curve : Found) (v : ℕ) → eqb (project_refusal curve (point_of m v)) 0 ≡ false → None ≡ param_at m curve v
unfolding param_at
param-none m curve v e = by (has m.vertices v) (eqb (project_refusal curve (point_of m v)) 0) e
  where
    by : (a b : Bool) → b ≡ false → None ≡ cond (a && b) (Some (nearest (the_line curve) (point_of m v))) None
    by true true q = absurd (let z : ◌≡◌ {A = ℕ} 0 1 = cc in omega arith)
    by true false q = refl
    by false b q = refl

pub param-missing : (m : Model) (curve : Found) (v : ℕ) → has m.vertices v ≡ false → None ≡ param_at m curve v
unfolding param_at
param-missing m curve v e = rw e

module _ (m : Model) (curve : Found) (v : ℕ) (x : Vertex) (is : x ≡ seen_vertex (vertex m v)) (r : Projected) (told : r ≡ project_to_curve curve x.point) where
  asked : r ≡ project_to_curve curve (point_of m v)
  unfolding seen_vertex
  asked = told ∙ ap (λ (y : Vertex). project_to_curve curve y.point) is

  pub param-refused : (z : Refusal) → r ≡ Err z → None ≡ param_at m curve v
  unfolding project_to_curve
  param-refused z q =
      let w = read-err (project_refusal curve (point_of m v)) (projection (the_line curve) (point_of m v)) z (sym asked ∙ q) in
      param-none m curve v (ne_eqb (project_refusal curve (point_of m v)) 0 (λ z. let k : 0 ≡ suc w.less = sym z ∙ w.number in omega arith))

  pub param-given : (near : CurveProjection) → r ≡ Ok near → has m.vertices v ≡ true → Some near.param ≡ param_at m curve v
  unfolding project_to_curve param_at
  param-given near q h =
      let w = project-given (project_refusal curve (point_of m v)) _ near (sym asked ∙ q) in
      rw (h, eq-eqb (project_refusal curve (point_of m v)) 0 w.number) (ap (λ y. Some y.param) (sym w.value))
