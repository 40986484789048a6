-- The queries of store.rs, over what a table has under an id: the refusal's number, the value, and the answer made of both. Definitions only.
-- 01, "Other geometry answers refusal 7 to every query (added), after the source's tests of number and record".
use Rattle.std.specs.Prelude.{ℕ, Float, Result}
use Rattle.std.specs.Float.Ieee.Scale.{finite}
use Rattle.float_vectors.specs.declared.vector.Point3.{Point3}
use Rattle.float_vectors.specs.Space.{finite_point}
use Rattle.geom_lines_planes.specs.declared.curve.Line.{Line}
use Rattle.geom_lines_planes.specs.declared.surface.Plane.{Plane}
use Rattle.geom_lines_planes.specs.Refuse.{◌unless◌, ◌then◌}
use Rattle.geom_lines_planes.specs.Geometry.{line_point, nearest, plane_distance}
use Rattle.geom_carriers.specs.Found.{Found}
use Rattle.geom_carriers.specs.Queries.{the_line, line_refusal, the_plane, plane_refusal}
use Rattle.geom_lines_planes.specs.declared.refusal.Refusal.{Refusal}
use Rattle.geom_lines_planes.specs.Refusals.{answered}
use Rattle.geom_queries.specs.declared.CurveProjection.{CurveProjection}

-- ---- the refusals of the queries, in the source's order

-- 01, "A point, parameter or computed surface distance that is not finite": on a line and on a plane
abbrev pub on_line : Line → Float → ℕ
on_line l t = 4 unless finite_point (line_point l t)

abbrev pub near_line : Line → Point3 → ℕ
near_line l p = 1 unless finite (nearest l p) then on_line l (nearest l p)

abbrev pub off_plane : Plane → Point3 → ℕ
off_plane s p = 4 unless finite (plane_distance s p)

-- `eval_curve`
abbrev pub eval_refusal : Found → Float → ℕ
eval_refusal f t = 1 unless finite t then line_refusal f then on_line (the_line f) t

-- `project_to_curve`, without its distance (01, "Off curve: in place of `hypot` (a departure)")
abbrev pub project_refusal : Found → Point3 → ℕ
project_refusal f p = 1 unless finite_point p then line_refusal f then near_line (the_line f) p

-- `distance_to_surface`
abbrev pub distance_refusal : Found → Point3 → ℕ
distance_refusal f p = 1 unless finite_point p then plane_refusal f then off_plane (the_plane f) p

-- ---- the answers, made of the number and the value

abbrev pub Evaluated : Type 0
Evaluated = Result Point3 Refusal

abbrev pub Projected : Type 0
Projected = Result CurveProjection Refusal

abbrev pub Measured : Type 0
Measured = Result Float Refusal

abbrev pub evaluated_answer : ℕ → Point3 → Evaluated
evaluated_answer = answered

abbrev pub projected_answer : ℕ → CurveProjection → Projected
projected_answer = answered

abbrev pub measured_answer : ℕ → Float → Measured
measured_answer = answered

unfoldable pub eval_curve : Found → Float → Evaluated
eval_curve f t = evaluated_answer (eval_refusal f t) (line_point (the_line f) t)

-- the nearest parameter, and the point there
abbrev pub projection : Line → Point3 → CurveProjection
projection l p = record { param = nearest l p; point = line_point l (nearest l p) }

unfoldable pub project_to_curve : Found → Point3 → Projected
project_to_curve f p = projected_answer (project_refusal f p) (projection (the_line f) p)

unfoldable pub distance_to_surface : Found → Point3 → Measured
distance_to_surface f p = measured_answer (distance_refusal f p) (plane_distance (the_plane f) p)
