-- What is found of a point held against a curve or a surface, by what the tables have under their ids (`Laws.antt`: it is what `meaning` says).
-- No reader of a public promise needs this file. Definitions only.
use Rattle.std.specs.Prelude.{ℕ, cond, List, [], ◌∷◌, eqb, Float, Ok, Err}
use Rattle.std.specs.Float.Ieee.{lt}
use Rattle.float_vectors.specs.declared.vector.Point3.{Point3}
use Rattle.geom_lines_planes.specs.Geometry.{line_point, nearest, plane_distance}
use Rattle.geom_carriers.specs.Found.{Found}
use Rattle.geom_carriers.specs.Queries.{the_line, the_plane}
use Rattle.geom_queries.specs.Queries.{eval_refusal, project_refusal, distance_refusal}
use Rattle.geom_queries.specs.Queries.{Measured}
use Rattle.geom_lines_planes.specs.Refusals.{number_of}
use Rattle.geom_signs.specs.Signs.{off_curve_s}
use Rattle.meaning.specs.Lists.{run, joined}
use Rattle.meaning.specs.Faults.{of_edge, Asked, about, Finding, skipped, only_if, fault_on, geometry_error, off_curve, sample_at}

-- what is found, by a code: 0 is nothing, 27 a check not made, else the fault of a reason
abbrev pub code_findings : ℕ → Asked → List Finding
code_findings c a = cond (eqb c 0) [] (cond (eqb c 27) (skipped ∷ []) (fault_on c a ∷ []))

-- the code of a refusal, and of a distance that was asked for
abbrev pub error_code : ℕ → ℕ
error_code n = cond (eqb n 7) 27 (cond (eqb n 2) 25 26)

abbrev pub surface_code : Measured → Float → ℕ → ℕ
surface_code (Err e) tolerance n = error_code (number_of e)
surface_code (Ok d) tolerance n = cond (lt tolerance d) n 0

-- `curve_test`: the vertex v at p on the curve of the edge e, with the tolerances of both
unfoldable pub curve_findings : Found → Point3 → Float → Float → ℕ → ℕ → List Finding
curve_findings curve p vertex edge e v =
    geometry_error (about of_edge e) (project_refusal curve p) (off_curve (off_curve_s p (line_point (the_line curve) (nearest (the_line curve) p)) vertex edge) v)

-- `point_on_surface`
unfoldable pub surface_findings : Found → Point3 → Float → ℕ → Asked → List Finding
surface_findings surface p tolerance n a =
    geometry_error a (distance_refusal surface p) (only_if (lt tolerance (plane_distance (the_plane surface) p)) (fault_on n a))

-- `sample_test`: the point of the edge e at t
unfoldable pub sample_findings : Found → Found → Float → ℕ → Float → List Finding
sample_findings curve surface tolerance e t =
    geometry_error (about of_edge e) (eval_refusal curve t) (surface_findings surface (line_point (the_line curve) t) tolerance 24 (about of_edge e))

-- sample k of n from t0 to t1, and all of them
abbrev pub samples : Found → Found → Float → ℕ → Float → Float → ℕ → ℕ → List Finding
samples curve surface tolerance e t0 t1 n k = sample_findings curve surface tolerance e (sample_at t0 t1 n k)

unfoldable pub samples_findings : Found → Found → Float → ℕ → Float → Float → ℕ → List Finding
samples_findings curve surface tolerance e t0 t1 n = joined (samples curve surface tolerance e t0 t1 n) (run 1 n)
