-- What is found of an edge on its curve and a face's surface, by what the tables have under their ids (`Laws.antt`: it is what `meaning` says).
-- No reader of a public promise needs this file. Definitions only.
use Rattle.std.specs.Prelude.{ℕ, cond, List, [], ◌++◌, Float}
use Rattle.std.proofs.Math.Option.{Option, none, some}
use Rattle.float_vectors.specs.declared.vector.Point3.{Point3}
use Rattle.geom_lines_planes.specs.Geometry.{effective}
use Rattle.geom_carriers.specs.Found.{Found}
use Rattle.meaning.specs.Lists.{listed, joined}
use Rattle.meaning.specs.Model.{Model, has, vertex, point_of}
use Rattle.meaning.specs.Faults.{of_vertex, about, Finding, skipped, only_if}
use Rattle.check_points.specs.Points.{curve_findings, surface_findings, samples_findings}
use Rattle.check_ends.specs.Ends.{Param}
use Rattle.std.specs.Prelude.{Some, None}
use Rattle.check_ends.specs.Ends.{param_at, ringed}

-- `end_tests` of a vertex v at p, with its own tolerance
unfoldable pub end_at : Found → Found → Point3 → Float → Float → ℕ → ℕ → List Finding
end_at curve surface p own tolerance e v = curve_findings curve p own tolerance e v ++ surface_findings surface p own 23 (about of_vertex v)

-- `end_tests`
unfoldable pub end_findings : Model → Found → Found → Float → ℕ → ℕ → List Finding
end_findings m curve surface tolerance e v =
    cond (has m.vertices v) (end_at curve surface (point_of m v) (effective m.version (vertex m v).tolerance m.precision) tolerance e v) []

unfoldable pub ends_findings : Model → Found → Found → Float → ℕ → Option ℕ → Option ℕ → List Finding
ends_findings m curve surface tolerance e start end =
    joined (end_findings m curve surface tolerance e) (listed start) ++ joined (end_findings m curve surface tolerance e) (listed end)

unfoldable pub param_of : Model → Found → Option ℕ → Param
param_of m curve none = None
param_of m curve (some v) = param_at m curve v

-- `sample_tests`
unfoldable pub between : Found → Found → Float → ℕ → ℕ → Param → Param → List Finding
between curve surface tolerance n e None q = []
between curve surface tolerance n e (Some t0) None = []
between curve surface tolerance n e (Some t0) (Some t1) = samples_findings curve surface tolerance e t0 t1 n

unfoldable pub samples_between : Model → Found → Found → Float → ℕ → ℕ → Option ℕ → Option ℕ → List Finding
samples_between m curve surface tolerance n e start end = between curve surface tolerance n e (param_of m curve start) (param_of m curve end)

-- `carried`, where there are a curve and a surface
unfoldable pub rim_findings : Model → Found → Found → Float → ℕ → ℕ → Option ℕ → Option ℕ → List Finding
rim_findings m curve surface tolerance n e start end =
    ends_findings m curve surface tolerance e start end ++ samples_between m curve surface tolerance n e start end
    ++ only_if (ringed curve surface start end) skipped
